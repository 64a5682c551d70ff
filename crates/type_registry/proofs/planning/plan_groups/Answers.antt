use Rattle.std.proofs.Common.{arith, rules, ◌≡◌, ◌<◌, ◌∷◌, [], length, sym, ap, subst}
use Rattle.type_spec.specs.Interned.{GroupSpan}
use Rattle.module_types.specs.Views.{span_of}
use Rattle.type_registry.specs.Registry.{indices_of}
use Rattle.type_registry.specs.Changes.{Plan, plan_group}
use Rattle.type_registry.specs.Planning.{HaveFirstFree, plan}
use Rattle.type_registry.proofs.PlanGroups.{spans_left, spans-keyed, may-plan, group-first, groups-grow, few-groups}
use Rattle.type_registry.proofs.planning.plan_groups.Goals as goal

pub loop-group-init : goal.loop-group-init
loop-group-init c = grind (arith, spans_left, spans-keyed, [], may-plan)

-- the group that comes next
pub loop-group-preserved : goal.loop-group-preserved
loop-group-preserved c =
    let l = c.args.source.types.now in
    let gs = c.args.source.groups.now.groups in
    let i = c.loop-group.invariant in
    let s : GroupSpan = span_of c.in-Some.range in
    let old = plan c.loop-group.listed c.loop-group.fresh in
    let first : spans_left c.loop-group._group-iterator ≡ s ∷ spans_left c.next.new.self = ap spans_left c.in-Some.ensures.steps in
    let step : plan c.take_group.new.listed c.take_group.new.fresh ≡ plan_group gs l old s =
    rw (c.as_u32-start.ensures, c.as_u32-end.ensures) at c.in_ok-take_group.ensures.ok in
    let may = rw first at i.may in
    record {
      rest = rw step (rw first at i.rest);
      may = rw (c.in_ok-take_group.ensures.long, c.as_u32-end.ensures) may.2;
      free = subst (λ (p : Plan). HaveFirstFree (indices_of gs) p.fresh) (sym step) (group-first gs l old s i.free);
      room = c.in_ok-take_group.ensures.fits;
    }

pub returns-in_err-take_group-clause-full : goal.returns-in_err-take_group-clause-full
returns-in_err-take_group-clause-full c = λ is.
    let l = c.args.source.types.now in
    let gs = c.args.source.groups.now.groups in
    let s : GroupSpan = span_of c.in-Some.range in
    let old = plan c.loop-group.listed c.loop-group.fresh in
    let first : spans_left c.loop-group._group-iterator ≡ s ∷ spans_left c.next.new.self = ap spans_left c.in-Some.ensures.steps in
    let full : c.args.source.room < length (indices_of (plan_group gs l old (record { start = c.as_u32-start.result; end = c.as_u32-end.result })).fresh) = search rules in
    let full' : c.args.source.room < length (indices_of (plan_group gs l old s).fresh) = rw (c.as_u32-start.ensures, c.as_u32-end.ensures) at full in
    let whole = rw first at c.loop-group.invariant.rest in
    omega (arith, full', groups-grow gs l (plan_group gs l old s) (spans_left c.next.new.self), ap (λ (p : Plan). length (indices_of p.fresh)) whole)

pub returns-clause-few : goal.returns-clause-few
returns-clause-few c =
    let few = few-groups c.args.source.groups.now.groups c.args.source.types.now c.requires.listed (omega (arith, c.len_types.ensures.count, c.len_types.ensures.below)) in
    let none : spans_left c.loop-group._group-iterator ≡ [] = ap spans_left c.in-None.ensures.steps.0 in
    let all = rw none at c.loop-group.invariant.rest in
    omega (arith, ap (λ (p : Plan). length p.listed.groups) all, few)
