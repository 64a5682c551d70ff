use Rattle.std.proofs.Common.{◌≡◌, ◌+◌, length, sym, ap, ◌∙◌, arith}
use Rattle.std.proofs.Math.Nat.{min-eq_left}
use Rattle.std.specs.Prelude.{min}
use Rattle.std.specs.List.{flat_map}
use Rattle.form_rules.specs.Source.{sections_left}
use Rattle.form_rules.proofs.sections.count_entries.Goals as goal

pub returns : goal.returns
returns g c =
    let count = c.loop-section.count in
    let left = c.loop-section.section-iterator in
    let none : count + length (flat_map g.T.FormEntry.of_section (sections_left left)) ≡ count =
    omega (arith, ap (λ ps. length (flat_map g.T.FormEntry.of_section ps)) c.in-None.ensures.steps.0) in
    sym (min-eq_left c.loop-section.invariant.0) ∙ sym (ap (λ n. min n 18446744073709551615) none) ∙ c.loop-section.invariant.1
