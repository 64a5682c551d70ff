use Rattle.std.proofs.Common.{◌≡◌, map, take}
use Rattle.module_customs.specs.Hints.{branch_hint_of}
use Rattle.module_customs.proofs.hints.branch_hints.Given as goal

abbrev pub invariant-loop-hint : goal.invariant-loop-hint
invariant-loop-hint l = l.all.items ≡ map branch_hint_of (take l.hint-index l.hints)
