use Rattle.std.proofs.Common.{rules}
use Rattle.form_reader.specs.Views.{segment_of}
use Rattle.form_rules.specs.Views.{lists_of}
use Rattle.form_rules.proofs.Taking.{taken}
use Rattle.rule_breaks.specs.Kept.{SegmentKeeps}
use Rattle.rule_breaks.proofs.Searching.{passes_none, passes_more, passes_fails, passes_ended}
use Rattle.rule_breaks.proofs.segments.first_segment.Goals as goal

pub loop-segments-init : goal.loop-segments-init
loop-segments-init c = passes_none _ _ _ (search rules)

pub loop-segments-preserved : goal.loop-segments-preserved
loop-segments-preserved c =
    let at = taken _ _ _ _ _ c.if-branch.true c.in_ok-advance.ensures c.entry.ensures in
    passes_more (SegmentKeeps c.args.rule (lists_of c.args.typing.now.lists.now)) _ _ _ _ (segment_of c.entry.result.now) c.loop-segments.invariant at _ c.in_ok-number.ensures
    (c.in_ok-segment_keeps.ensures.0 c.if-not-branch.false)

pub returns-then-not-branch : goal.returns-then-not-branch
returns-then-not-branch c =
    let at = taken _ _ _ _ _ c.if-branch.true c.in_ok-advance.ensures c.entry.ensures in
    passes_fails (SegmentKeeps c.args.rule (lists_of c.args.typing.now.lists.now)) _ _ _ _ (segment_of c.entry.result.now) c.loop-segments.invariant at _ c.if-not-branch.true
    c.in_ok-segment_keeps.ensures

pub returns : goal.returns
returns c =
    passes_ended (SegmentKeeps c.args.rule (lists_of c.args.typing.now.lists.now)) _ _ _ _ _ _ c.loop-segments.invariant c.if-branch.false c.in_ok-advance.ensures
