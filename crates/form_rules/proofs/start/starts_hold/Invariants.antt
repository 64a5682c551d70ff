use Rattle.std.proofs.Common.{◌↔◌, All}
use Rattle.std.specs.List.{flat_map}
use Rattle.wasm_spec.specs.Module.{starts_of_section}
use Rattle.rule_spec.specs.Indices.{CanStart}
use Rattle.form_rules.specs.Source.{source_module, sections_left}
use Rattle.form_rules.specs.Views.{lists_of}
use Rattle.form_rules.proofs.start.starts_hold.Given as goal

-- all hold exactly where the remaining ones do
abbrev pub invariant-loop-section : goal.invariant-loop-section
invariant-loop-section l = All (CanStart (lists_of l.lists)) (flat_map starts_of_section (sections_left l.section-iterator))
    ↔ All (CanStart (lists_of l.lists)) (flat_map starts_of_section (source_module l.lists.source))
