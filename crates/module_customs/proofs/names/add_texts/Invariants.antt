use Rattle.std.proofs.Common.{ℕ, List, ◌++◌, map, take}
use Rattle.custom_sections.specs.Views.{text_of}
use Rattle.module_customs.specs.Names.{at_number, HasLast}
use Rattle.module_customs.proofs.names.add_texts.Given as goal

abbrev pub invariant-loop-index : goal.invariant-loop-index
invariant-loop-index l = (before : List (ℕ × List ℕ)) → HasLast before (at_number (λ n. n) l.initial.kept)
    → HasLast (before ++ map text_of (take l.index-index l.names)) (at_number (λ n. n) l.kept)
