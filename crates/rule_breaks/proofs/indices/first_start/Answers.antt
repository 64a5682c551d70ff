use Rattle.std.proofs.Common.{Some}
use Rattle.wasm_spec.specs.Module.{starts_of_section}
use Rattle.rule_spec.specs.Indices.{CanStart}
use Rattle.form_rules.specs.Source.{sections_in}
use Rattle.form_rules.specs.Views.{lists_of}
use Rattle.rule_breaks.proofs.Searching.{passes_more, passes_fails, parts_step}
use Rattle.rule_breaks.proofs.indices.first_start.Goals as goal

pub returns-then-not-can_start : goal.returns-then-not-can_start
returns-then-not-can_start c =
    let at = parts_step starts_of_section _ (sections_in c.in-Some.section) _ (Some c.in-Some-start_in.function) c.in-Some.ensures.steps c.in-Some-start_in.ensures in
    passes_fails (CanStart (lists_of c.args.lists.now)) _ _ _ _ c.in-Some-start_in.function c.loop-section.invariant at _ c.if-not-can_start.true c.can_start.ensures

pub loop-section-preserved : goal.loop-section-preserved
loop-section-preserved c =
    let at = parts_step starts_of_section _ (sections_in c.in-Some.section) _ (Some c.in-Some-start_in.function) c.in-Some.ensures.steps c.in-Some-start_in.ensures in
    passes_more (CanStart (lists_of c.args.lists.now)) _ _ _ _ c.in-Some-start_in.function c.loop-section.invariant at _ c.in_ok-number.ensures
    (c.can_start.ensures.0 c.if-not-can_start.false)
