use Rattle.std.proofs.Common.{arith}
use Rattle.rule_breaks.proofs.Searching.{empty}
use Rattle.rule_breaks.proofs.FirstPast.{missing_more, missing_found, missing_ended}
use Rattle.rule_breaks.proofs.faults_segments.first_missing.Goals as goal

pub loop-first-init : goal.loop-first-init
loop-first-init c = λ r found. found

pub loop-first-preserved : goal.loop-first-preserved
loop-first-preserved c =
    missing_more c.args.count _ _ _ c.in-Some.first.now c.loop-first.invariant c.in-Some.ensures.cases.0 (omega (arith, c.if-first-count.false))

pub returns-then-first-count : goal.returns-then-first-count
returns-then-first-count c =
    missing_found c.args.count _ c.in-Some.others.now _ c.in-Some.first.now c.loop-first.invariant c.in-Some.ensures.cases.0 (omega (arith, c.if-first-count.true))

pub returns : goal.returns
returns c = missing_ended c.args.count _ _ c.loop-first.invariant (empty _ c.in_default.ensures.cases)
