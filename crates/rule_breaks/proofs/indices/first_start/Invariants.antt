use Rattle.std.specs.List.{flat_map}
use Rattle.wasm_spec.specs.Module.{starts_of_section}
use Rattle.rule_spec.specs.Indices.{CanStart}
use Rattle.form_rules.specs.Source.{source_module, sections_left}
use Rattle.form_rules.specs.Views.{lists_of}
use Rattle.rule_breaks.proofs.Searching.{Passes}
use Rattle.rule_breaks.proofs.indices.first_start.Given as goal

-- those so far keep the rule
abbrev pub invariant-loop-section : goal.invariant-loop-section
invariant-loop-section l = Passes (CanStart (lists_of l.lists)) l.number (flat_map starts_of_section (sections_left l.section-iterator)) (flat_map starts_of_section (source_module l.lists.source))
