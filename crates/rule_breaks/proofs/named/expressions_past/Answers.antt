use Rattle.std.proofs.Common.{ap, map}
use Rattle.form_reader.specs.Views.{expression_of}
use Rattle.rule_breaks.specs.Named.{expression_types}
use Rattle.rule_breaks.proofs.Searching.{empty}
use Rattle.rule_breaks.proofs.FirstPast.{remains_more, remains_found, remains_ended}
use Rattle.rule_breaks.proofs.named.expressions_past.Goals as goal

pub loop-first-init : goal.loop-first-init
loop-first-init c = record { finds = λ r found. found }

pub loop-first-preserved : goal.loop-first-preserved
loop-first-preserved c =
    remains_more c.args.bound expression_types _ _ _ (expression_of c.in-Some.first.now) c.loop-first.invariant (ap (map expression_of) c.in-Some.ensures.cases.0)
    c.in_default-expression_past.ensures

pub returns-in-Some-expression_past : goal.returns-in-Some-expression_past
returns-in-Some-expression_past c =
    remains_found c.args.bound expression_types _ (map expression_of c.in-Some.others.now) _ (expression_of c.in-Some.first.now) c.loop-first.invariant
    (ap (map expression_of) c.in-Some.ensures.cases.0) _ c.in-Some-expression_past.ensures

pub returns : goal.returns
returns c = remains_ended c.args.bound expression_types _ _ c.loop-first.invariant (ap (map expression_of) (empty _ c.in_default.ensures.cases))
