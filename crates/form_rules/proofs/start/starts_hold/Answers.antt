use Rattle.std.proofs.Common.{ap, ◌∙◌}
use Rattle.wasm_spec.specs.Module.{starts_of_section}
use Rattle.rule_spec.specs.Indices.{CanStart}
use Rattle.form_rules.specs.Source.{sections_in, sections_left}
use Rattle.form_rules.specs.Views.{lists_of}
use Rattle.form_rules.proofs.AllSections.{left_parts, sections_more, sections_fail}
use Rattle.form_rules.proofs.start.starts_hold.Goals as goal

pub loop-section-init : goal.loop-section-init
loop-section-init c =
    left_parts (CanStart (lists_of c.args.lists.now)) starts_of_section _ _
    (ap sections_left c.into_iter-section-iterator.ensures.into_iter_gives ∙ c.sections_of-section-items.ensures)

pub loop-section-preserved : goal.loop-section-preserved
loop-section-preserved c =
    sections_more (CanStart (lists_of c.args.lists.now)) starts_of_section _ _ (sections_in c.in-Some.section) _ c.in-Some.ensures.steps
    c.loop-section.invariant (c.section_can_start.ensures.0 c.if-not-section_can_start.false)

pub returns-then-not-section_can_start : goal.returns-then-not-section_can_start
returns-then-not-section_can_start c =
    sections_fail (CanStart (lists_of c.args.lists.now)) starts_of_section _ _ (sections_in c.in-Some.section) _ c.in-Some.ensures.steps
    c.loop-section.invariant _ c.if-not-section_can_start.true c.section_can_start.ensures
