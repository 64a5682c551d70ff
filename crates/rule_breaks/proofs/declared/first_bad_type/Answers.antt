use Rattle.std.proofs.Common.{None, Some, ap, rules, ◌∙◌}
use Rattle.rule_spec.specs.Lists.{declared_groups}
use Rattle.form_rules.specs.Source.{source_module}
use Rattle.form_rules.proofs.Taking.{taken}
use Rattle.rule_breaks.specs.TypeFlags.{IsWell}
use Rattle.rule_breaks.proofs.Searching.{passes_none}
use Rattle.rule_breaks.proofs.DeclaredWell.{group_passes, group_fails, groups_end, found_well}
use Rattle.rule_breaks.proofs.declared.first_bad_type.Goals as goal

pub loop-groups-init : goal.loop-groups-init
loop-groups-init c = passes_none _ _ _ (ap (declared_groups 0) c.walk_of-groups.ensures)

pub loop-groups-preserved : goal.loop-groups-preserved
loop-groups-preserved c =
    let at = taken _ _ _ _ _ c.if-branch.true c.in_ok-advance.ensures c.entry.ensures in
    group_passes (IsWell c.as_slice-flags.result.now) _ _ _ _ c.entry.result.now c.as_slice-types.result.now c.loop-groups.invariant at c.as_slice-types.ensures.value
    _ c.in_ok-number.ensures (search rules)

pub returns-in-Some : goal.returns-in-Some
returns-in-Some c =
    let at = taken _ _ _ _ _ c.if-branch.true c.in_ok-advance.ensures c.entry.ensures in
    found_well (source_module c.args.source) c.as_slice-flags.result.now (c.as_slice-flags.ensures.value ∙ c.in_ok-functions.ensures) (Some _)
    (group_fails (IsWell c.as_slice-flags.result.now) _ _ _ _ c.entry.result.now c.as_slice-types.result.now c.loop-groups.invariant at c.as_slice-types.ensures.value
    _ _ c.in_ok-numbered.ensures (search rules))

pub returns : goal.returns
returns c =
    found_well (source_module c.args.source) c.as_slice-flags.result.now (c.as_slice-flags.ensures.value ∙ c.in_ok-functions.ensures) None
    (groups_end (IsWell c.as_slice-flags.result.now) _ _ _ _ _ _ c.loop-groups.invariant c.if-branch.false c.in_ok-advance.ensures)
