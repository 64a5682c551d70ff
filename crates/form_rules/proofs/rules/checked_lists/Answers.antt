use Rattle.std.proofs.Common.{arith, sym, ap, subst, ◌∙◌}
use Rattle.form_rules.specs.Source.{source_module}
use Rattle.form_rules.specs.Views.{lists_of}
use Rattle.std.specs.Prelude.{is_some}
use Rattle.rule_spec.specs.declared.rules.Rule.TheVariants.{L1, L7}
use Rattle.rule_spec.specs.Lists.{Lists}
use Rattle.rule_spec.specs.Rules.{AreDistinct, Satisfies}
use Rattle.form_rules.proofs.RuleOrder.{first_kept, first_broken}
use Rattle.form_rules.proofs.rules.checked_lists.Goals as goal

pub loop-rule-init : goal.loop-rule-init
loop-rule-init c = record {
  kept = first_kept (lists_of c.in_ok-lists.lists) (subst (Satisfies L1) (sym c.in_ok-lists.ensures.lists) c.requires.well);
  pooled = c.in_ok-names.ensures.pooled;
  distinct = c.is_some.ensures;
}

pub returns-then-not-branch-clause-first : goal.returns-then-not-branch-clause-first
returns-then-not-branch-clause-first c = λ rule is.
    first_broken c.loop-rule.rule-index _ rule (lists_of c.in_ok-lists.lists) (source_module c.args.source) c.loop-rule-test.true is
    c.loop-rule.invariant.kept c.in_ok-lists.ensures.lists

-- the rule on exports is kept, so there is a pool
pub unreachable-requires : goal.unreachable-requires
unreachable-requires c =
    let kept = c.loop-rule.invariant.kept L7 (omega (arith, c.loop-rule-test.false)) in
    let some = c.in_ok-names.ensures.distinct.1 (subst (λ (l : Lists). AreDistinct l.exports) c.in_ok-lists.ensures.lists kept.distinct) in
    let none = sym c.is_some.ensures ∙ c.loop-rule.invariant.distinct ∙ ap is_some c.in-None.is in
    absurd (cc)
