use Rattle.std.specs.List.{flat_map}
use Rattle.wasm_spec.specs.Module.{data_counts_of_section}
use Rattle.form_rules.specs.Source.{source_module, sections_left}
use Rattle.rule_breaks.proofs.Numbered.{Remaining}
use Rattle.rule_breaks.proofs.finding.stated_at.Given as goal

-- the entry has another number among those that remain
abbrev pub invariant-loop-section : goal.invariant-loop-section
invariant-loop-section l =
    Remaining (flat_map data_counts_of_section (source_module l.source)) (flat_map data_counts_of_section (sections_left l.section-iterator)) l.entry l.left
