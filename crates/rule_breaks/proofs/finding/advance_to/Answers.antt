use Rattle.std.proofs.Common.{refl, sym, subst}
use Rattle.form_rules.proofs.Taking.{taken}
use Rattle.form_reader.specs.Input.{Takes}
use Rattle.rule_breaks.proofs.Numbered.{remaining_all, passed, reached, ran_out}
use Rattle.rule_breaks.proofs.finding.advance_to.Goals as goal

pub loop-left-init : goal.loop-left-init
loop-left-init g c = remaining_all _ _ _ refl

pub loop-left-preserved : goal.loop-left-preserved
loop-left-preserved g c =
    passed _ _ _ _ _ _ c.loop-left.invariant (taken _ _ _ _ _ c.if-branch.true c.in_ok-advance.ensures refl) c.if-left-eq0.false

pub returns-then-left-eq0 : goal.returns-then-left-eq0
returns-then-left-eq0 g c =
    sym (reached _ _ _ _ _ _ c.loop-left.invariant (taken _ _ _ _ _ c.if-branch.true c.in_ok-advance.ensures refl) c.if-left-eq0.true)

pub returns : goal.returns
returns g c = sym (ran_out _ _ _ _ c.loop-left.invariant (subst (Takes _ _ _) c.if-branch.false c.in_ok-advance.ensures).0)
