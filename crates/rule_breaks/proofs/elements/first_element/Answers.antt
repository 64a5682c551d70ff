use Rattle.std.proofs.Common.{rules}
use Rattle.form_reader.specs.Views.{element_of}
use Rattle.form_rules.specs.Views.{lists_of}
use Rattle.form_rules.proofs.Taking.{taken}
use Rattle.rule_breaks.specs.Kept.{ElementKeeps}
use Rattle.rule_breaks.proofs.Searching.{passes_none, passes_more, passes_fails, passes_ended}
use Rattle.rule_breaks.proofs.elements.first_element.Goals as goal

pub loop-elements-init : goal.loop-elements-init
loop-elements-init c = passes_none _ _ _ (search rules)

pub loop-elements-preserved : goal.loop-elements-preserved
loop-elements-preserved c =
    let at = taken _ _ _ _ _ c.if-branch.true c.in_ok-advance.ensures c.entry.ensures in
    passes_more (ElementKeeps c.args.rule (lists_of c.args.typing.now.lists.now)) _ _ _ _ (element_of c.entry.result.now) c.loop-elements.invariant at _ c.in_ok-number.ensures
    (c.in_ok-element_keeps.ensures.0 c.if-not-branch.false)

pub returns-then-not-branch : goal.returns-then-not-branch
returns-then-not-branch c =
    let at = taken _ _ _ _ _ c.if-branch.true c.in_ok-advance.ensures c.entry.ensures in
    passes_fails (ElementKeeps c.args.rule (lists_of c.args.typing.now.lists.now)) _ _ _ _ (element_of c.entry.result.now) c.loop-elements.invariant at _ c.if-not-branch.true
    c.in_ok-element_keeps.ensures

pub returns : goal.returns
returns c =
    passes_ended (ElementKeeps c.args.rule (lists_of c.args.typing.now.lists.now)) _ _ _ _ _ _ c.loop-elements.invariant c.if-branch.false c.in_ok-advance.ensures
