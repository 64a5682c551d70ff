use Rattle.std.proofs.Common.{map, take}
use Rattle.wasm_index.specs.Index.{number_of}
use Rattle.custom_sections.specs.Views.{hint_entry_of}
use Rattle.module_customs.specs.Names.{at_number}
use Rattle.module_customs.specs.Hints.{HasFirst}
use Rattle.module_customs.proofs.hints.by_function.Given as goal

abbrev pub invariant-loop-function : goal.invariant-loop-function
invariant-loop-function l = HasFirst (map hint_entry_of (take l.function-index l.entries)) (at_number number_of l.kept)
