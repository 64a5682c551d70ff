use Rattle.rule_breaks.proofs.Searching.{empty}
use Rattle.rule_breaks.proofs.FirstPast.{remains_more, remains_found, remains_ended}
use Rattle.rule_breaks.proofs.named.first_past.Goals as goal

pub loop-first-init : goal.loop-first-init
loop-first-init g c = record { finds = λ r found. found }

pub loop-first-preserved : goal.loop-first-preserved
loop-first-preserved g c =
    remains_more c.args.bound g.T.NamesTypes.named _ _ _ c.in-Some.first.now c.loop-first.invariant c.in-Some.ensures.cases.0 c.in_default-past.ensures

pub returns-in-Some-past : goal.returns-in-Some-past
returns-in-Some-past g c =
    remains_found c.args.bound g.T.NamesTypes.named _ _ _ c.in-Some.first.now c.loop-first.invariant c.in-Some.ensures.cases.0 _ c.in-Some-past.ensures

pub returns : goal.returns
returns g c = remains_ended c.args.bound g.T.NamesTypes.named _ _ c.loop-first.invariant (empty _ c.in_default.ensures.cases)
