use Rattle.std.proofs.Common.{ℕ, List, ◌++◌, map, take}
use Rattle.custom_sections.specs.Views.{text_of}
use Rattle.wasm_index.specs.Index.{number_of}
use Rattle.module_customs.specs.Names.{at_number, below, HasLast}
use Rattle.module_customs.proofs.names.enter_names.Given as goal

abbrev pub invariant-loop-function : goal.invariant-loop-function
invariant-loop-function l = (before : List (ℕ × List ℕ)) → HasLast before (at_number number_of l.initial.kept)
    → HasLast (before ++ below l.declared (map text_of (take l.function-index l.names))) (at_number number_of l.kept)
