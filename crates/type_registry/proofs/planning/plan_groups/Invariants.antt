use Rattle.std.proofs.Common.{◌≡◌, ◌≤◌, length, map}
use Rattle.module_types.specs.Views.{span_of}
use Rattle.type_registry.specs.Registry.{indices_of}
use Rattle.type_registry.specs.Changes.{begun, plan_groups}
use Rattle.type_registry.specs.Planning.{HaveFirstFree, MayBePlannedFrom, plan}
use Rattle.type_registry.proofs.PlanGroups.{spans_left}
use Rattle.type_registry.proofs.planning.plan_groups.Given as goal

-- what is planned with the remaining groups is what is planned with all
abbrev pub invariant-loop-group : goal.invariant-loop-group
invariant-loop-group l = record {
  rest : plan_groups l.source.groups.now.groups l.source.types.now (plan l.listed l.fresh) (spans_left l._group-iterator)
      ≡ plan_groups l.source.groups.now.groups l.source.types.now begun (map span_of l.source.types.now.groups);
  may : MayBePlannedFrom l.source.types.now (length l.listed.indices) (spans_left l._group-iterator);
  free : HaveFirstFree (indices_of l.source.groups.now.groups) l.fresh;
  room : length (indices_of l.fresh) ≤ l.source.room;
}
