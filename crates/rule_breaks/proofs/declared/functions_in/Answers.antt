use Rattle.form_rules.proofs.Taking.{taken}
use Rattle.rule_breaks.proofs.DeclaredWell.{flags-more, flags-ended}
use Rattle.rule_breaks.proofs.declared.functions_in.Goals as goal

pub loop-groups-preserved : goal.loop-groups-preserved
loop-groups-preserved c =
    let at = taken _ _ _ _ _ c.if-branch.true c.in_ok-advance.ensures c.entry.ensures in
    flags-more _ _ _ _ _ c.entry.result.now _ at c.as_slice.ensures.value c.in_ok-add_flags.ensures c.loop-groups.invariant

pub returns : goal.returns
returns c = flags-ended _ _ _ _ _ _ c.if-branch.false c.in_ok-advance.ensures c.loop-groups.invariant
