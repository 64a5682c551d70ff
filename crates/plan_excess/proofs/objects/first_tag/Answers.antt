use Rattle.std.proofs.Common.{refl}
use Rattle.translate.specs.Options.{header_size}
use Rattle.rule_breaks.proofs.Searching.{empty, passes_none, passes_all, passes_more, passes_fails}
use Rattle.plan_excess.specs.Found.{HasSmall}
use Rattle.plan_excess.proofs.objects.first_tag.Goals as goal

pub loop-first-init : goal.loop-first-init
loop-first-init c = passes_none _ _ _ refl

pub loop-first-preserved : goal.loop-first-preserved
loop-first-preserved c =
    passes_more (HasSmall (header_size c.args.collector) c.args.types.now.types) _ _ _ _ c.in-Some.first.now c.loop-first.invariant c.in-Some.ensures.cases.0 _ c.in_ok-number.ensures
    (c.in_ok-is_small.ensures.0 c.if-not-branch.false)

pub returns-then-not-branch : goal.returns-then-not-branch
returns-then-not-branch c =
    passes_fails (HasSmall (header_size c.args.collector) c.args.types.now.types) _ _ _ _ c.in-Some.first.now c.loop-first.invariant c.in-Some.ensures.cases.0 _ c.if-not-branch.true
    c.in_ok-is_small.ensures

pub returns : goal.returns
returns c = passes_all (HasSmall (header_size c.args.collector) c.args.types.now.types) _ _ _ c.loop-first.invariant (empty _ c.in_default.ensures.cases)
