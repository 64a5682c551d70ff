use Rattle.std.proofs.Common.{ℕ, List, ◌++◌, map, take}
use Rattle.custom_sections.specs.Views.{locals_of}
use Rattle.module_customs.specs.Names.{below, HasLocals}
use Rattle.module_customs.proofs.names.add_locals.Given as goal

abbrev pub invariant-loop-function : goal.invariant-loop-function
invariant-loop-function l = (before : List (ℕ × List (ℕ × List ℕ))) → HasLocals before l.initial.kept
    → HasLocals (before ++ below l.declared (map locals_of (take l.function-index l.locals))) l.kept
