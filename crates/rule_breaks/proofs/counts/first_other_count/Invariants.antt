use Rattle.std.proofs.Common.{◌≡◌, ℕ}
use Rattle.std.specs.List.{flat_map}
use Rattle.wasm_spec.specs.Module.{data_counts_of_section}
use Rattle.form_rules.specs.Source.{source_module, sections_left}
use Rattle.rule_breaks.proofs.Searching.{Passes}
use Rattle.rule_breaks.proofs.counts.first_other_count.Given as goal

-- those so far keep the rule
abbrev pub invariant-loop-section : goal.invariant-loop-section
invariant-loop-section l = Passes (λ (stated : ℕ). stated ≡ l.count) l.number (flat_map data_counts_of_section (sections_left l.section-iterator)) (flat_map data_counts_of_section (source_module l.source))
