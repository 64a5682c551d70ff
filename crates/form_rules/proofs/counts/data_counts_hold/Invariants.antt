use Rattle.std.proofs.Common.{◌≡◌, ◌↔◌, ℕ, All}
use Rattle.std.specs.List.{flat_map}
use Rattle.wasm_spec.specs.Module.{data_counts_of_section}
use Rattle.form_rules.specs.Source.{source_module, sections_left}
use Rattle.form_rules.proofs.counts.data_counts_hold.Given as goal

-- all hold exactly where the remaining ones do
abbrev pub invariant-loop-section : goal.invariant-loop-section
invariant-loop-section l = All (λ (stated : ℕ). stated ≡ l.count) (flat_map data_counts_of_section (sections_left l.section-iterator))
    ↔ All (λ (stated : ℕ). stated ≡ l.count) (flat_map data_counts_of_section (source_module l.source))
