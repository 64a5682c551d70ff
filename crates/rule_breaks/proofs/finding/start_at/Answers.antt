use Rattle.std.proofs.Common.{Some, ap, rules}
use Rattle.std.specs.List.{flat_map}
use Rattle.wasm_spec.specs.Module.{starts_of_section}
use Rattle.form_rules.specs.Source.{sections_in}
use Rattle.rule_breaks.proofs.Searching.{parts_step}
use Rattle.rule_breaks.proofs.Numbered.{remaining_all, passed, reached, ran_out}
use Rattle.rule_breaks.proofs.finding.start_at.Goals as goal

pub loop-section-init : goal.loop-section-init
loop-section-init c = remaining_all _ _ _ (search rules)

pub returns-then-left-eq0 : goal.returns-then-left-eq0
returns-then-left-eq0 c =
    let at = parts_step starts_of_section _ (sections_in c.in-Some.section) _ (Some c.in-Some-start_in.start) c.in-Some.ensures.steps c.in-Some-start_in.ensures in
    reached _ _ _ _ _ _ c.loop-section.invariant at c.if-left-eq0.true

pub loop-section-preserved : goal.loop-section-preserved
loop-section-preserved c =
    let at = parts_step starts_of_section _ (sections_in c.in-Some.section) _ (Some c.in-Some-start_in.start) c.in-Some.ensures.steps c.in-Some-start_in.ensures in
    passed _ _ _ _ _ _ c.loop-section.invariant at c.if-left-eq0.false

pub returns : goal.returns
returns c = ran_out _ _ _ _ c.loop-section.invariant (ap (flat_map starts_of_section) c.in-None.ensures.steps.0)
