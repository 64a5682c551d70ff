use Rattle.std.proofs.Common.{◌≡◌, ℕ, ap, ◌∙◌}
use Rattle.wasm_spec.specs.Module.{data_counts_of_section}
use Rattle.form_rules.specs.Source.{sections_in, sections_left}
use Rattle.form_rules.proofs.AllSections.{left_parts, sections_more, sections_fail}
use Rattle.form_rules.proofs.counts.data_counts_hold.Goals as goal

pub loop-section-init : goal.loop-section-init
loop-section-init c =
    left_parts (λ (stated : ℕ). stated ≡ c.args.count) data_counts_of_section _ _
    (ap sections_left c.into_iter-section-iterator.ensures.into_iter_gives ∙ c.sections_of-section-items.ensures)

pub loop-section-preserved : goal.loop-section-preserved
loop-section-preserved c =
    sections_more (λ (stated : ℕ). stated ≡ c.args.count) data_counts_of_section _ _ (sections_in c.in-Some.section) _ c.in-Some.ensures.steps
    c.loop-section.invariant (c.data_count_holds.ensures.0 c.if-not-data_count_holds.false)

pub returns-then-not-data_count_holds : goal.returns-then-not-data_count_holds
returns-then-not-data_count_holds c =
    sections_fail (λ (stated : ℕ). stated ≡ c.args.count) data_counts_of_section _ _ (sections_in c.in-Some.section) _ c.in-Some.ensures.steps
    c.loop-section.invariant _ c.if-not-data_count_holds.true c.data_count_holds.ensures
