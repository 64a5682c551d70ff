use Rattle.std.proofs.Common.{◌≡◌}
use Rattle.std.specs.Vec.Iter.{into_iter_items}
use Rattle.type_registry.specs.Changes.{keep_groups}
use Rattle.type_registry.specs.Fresh.{MayKeepAll}
use Rattle.type_registry.proofs.registry.keep_all.Given as goal

-- the remaining groups may be kept, and what is kept with them is what is kept with all
abbrev pub invariant-loop-group : goal.invariant-loop-group
invariant-loop-group l = record {
  may : MayKeepAll l.groups (into_iter_items l.group-iterator);
  rest : keep_groups l.groups.groups (into_iter_items l.group-iterator) ≡ keep_groups l.fn.groups.groups l.fn.fresh.items;
}
