use Rattle.std.proofs.Common.{◌≡◌, ℕ, Some}
use Rattle.wasm_spec.specs.Module.{data_counts_of_section}
use Rattle.form_rules.specs.Source.{sections_in}
use Rattle.rule_breaks.proofs.Searching.{passes_more, passes_lack, parts_step}
use Rattle.rule_breaks.proofs.counts.first_other_count.Goals as goal

pub returns-then-stated-count : goal.returns-then-stated-count
returns-then-stated-count c =
    let at = parts_step data_counts_of_section _ (sections_in c.in-Some.section) _ (Some c.in-Some-stated_in.stated) c.in-Some.ensures.steps c.in-Some-stated_in.ensures in
    passes_lack (λ (stated : ℕ). stated ≡ c.args.count) _ _ _ _ c.in-Some-stated_in.stated c.loop-section.invariant at c.if-stated-count.true

pub loop-section-preserved : goal.loop-section-preserved
loop-section-preserved c =
    let at = parts_step data_counts_of_section _ (sections_in c.in-Some.section) _ (Some c.in-Some-stated_in.stated) c.in-Some.ensures.steps c.in-Some-stated_in.ensures in
    passes_more (λ (stated : ℕ). stated ≡ c.args.count) _ _ _ _ c.in-Some-stated_in.stated c.loop-section.invariant at _ c.in_ok-number.ensures
    c.if-stated-count.false
