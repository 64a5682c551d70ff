use Rattle.std.proofs.Common.{rules}
use Rattle.form_reader.specs.Views.{body_of}
use Rattle.rule_breaks.specs.Kept.{BodyKeeps}
use Rattle.form_rules.specs.Views.{lists_of}
use Rattle.rule_breaks.proofs.Searching.{passes_none, passes_all, passes_more, passes_fails}
use Rattle.rule_breaks.proofs.entries.first_body.Goals as goal

pub loop-body-init : goal.loop-body-init
loop-body-init c = passes_none _ _ _ (search rules)

pub loop-body-preserved : goal.loop-body-preserved
loop-body-preserved c =
    passes_more (BodyKeeps c.args.rule (lists_of c.args.lists.now)) _ _ _ _ (body_of c.in-Some.body.now) c.loop-body.invariant c.in-Some.ensures.steps _ c.in_ok-number.ensures
    (c.body_keeps.ensures.0 c.if-not-body_keeps.false)

pub returns-then-not-body_keeps : goal.returns-then-not-body_keeps
returns-then-not-body_keeps c =
    passes_fails (BodyKeeps c.args.rule (lists_of c.args.lists.now)) _ _ _ _ (body_of c.in-Some.body.now) c.loop-body.invariant c.in-Some.ensures.steps _ c.if-not-body_keeps.true c.body_keeps.ensures

pub returns : goal.returns
returns c = passes_all (BodyKeeps c.args.rule (lists_of c.args.lists.now)) _ _ _ c.loop-body.invariant c.in-None.ensures.steps.0
