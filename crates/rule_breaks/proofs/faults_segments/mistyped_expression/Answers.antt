use Rattle.std.proofs.Common.{ap, map}
use Rattle.form_reader.specs.Views.{expression_of}
use Rattle.rule_spec.specs.declared.classes.Class.TheVariants as class
use Rattle.rule_spec.specs.Typing.{HasClass}
use Rattle.form_rules.specs.Views.{lists_of}
use Rattle.rule_breaks.proofs.Searching.{passes_more}
use Rattle.rule_breaks.proofs.faults_segments.mistyped_expression.Goals as goal

pub loop-first-preserved : goal.loop-first-preserved
loop-first-preserved c =
    passes_more (λ e. HasClass (lists_of c.args.lists.now) (lists_of c.args.lists.now).global_types e class.Ref) _ _ _ _ (expression_of c.in-Some.first.now)
    c.loop-first.invariant (ap (map expression_of) c.in-Some.ensures.cases.0) _ c.in_ok-number.ensures (c.in_ok-item_is_typed.ensures.0 c.if-not-branch.false)
