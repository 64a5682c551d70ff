use Rattle.std.proofs.Common.{refl}
use Rattle.rule_spec.specs.TypeRules.{NamesFunctionType}
use Rattle.form_rules.specs.Views.{lists_of}
use Rattle.rule_breaks.proofs.Searching.{empty, passes_none, passes_all, passes_more, passes_fails}
use Rattle.rule_breaks.proofs.types.first_of_no_function_type.Goals as goal

pub loop-first-init : goal.loop-first-init
loop-first-init c = passes_none _ _ _ refl

pub loop-first-preserved : goal.loop-first-preserved
loop-first-preserved c =
    passes_more (NamesFunctionType (lists_of c.args.lists.now)) _ _ _ _ _ c.loop-first.invariant c.in-Some.ensures.cases.0 _ c.in_ok-number.ensures (c.is_function_at.ensures.0 c.if-not-is_function_at.false)

pub returns-then-not-is_function_at : goal.returns-then-not-is_function_at
returns-then-not-is_function_at c =
    passes_fails (NamesFunctionType (lists_of c.args.lists.now)) _ _ _ _ _ c.loop-first.invariant c.in-Some.ensures.cases.0 _ c.if-not-is_function_at.true c.is_function_at.ensures

pub returns : goal.returns
returns c = passes_all (NamesFunctionType (lists_of c.args.lists.now)) _ _ _ c.loop-first.invariant (empty _ c.in_default.ensures.cases)
