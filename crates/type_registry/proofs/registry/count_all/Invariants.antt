use Rattle.std.proofs.Common.{◌≡◌, take}
use Rattle.type_registry.specs.Changes.{count_groups}
use Rattle.type_registry.proofs.registry.count_all.Given as goal

abbrev pub invariant-loop-first : goal.invariant-loop-first
invariant-loop-first l = l.groups.groups ≡ count_groups l.fn.groups.groups (take l.first-index l.firsts)
