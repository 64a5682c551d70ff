use Rattle.wasm_spec.specs.Module.{exports_of_section}
use Rattle.form_reader.specs.Views.{export_of}
use Rattle.rule_spec.specs.Indices.{IsInSpace}
use Rattle.form_rules.specs.Sections.{entries_left}
use Rattle.form_rules.specs.Views.{lists_of}
use Rattle.rule_breaks.proofs.Searching.{Passes}
use Rattle.rule_breaks.proofs.entries.first_export.Given as goal

-- those so far keep the rule
abbrev pub invariant-loop-export : goal.invariant-loop-export
invariant-loop-export l = Passes (IsInSpace (lists_of l.lists)) l.number (entries_left export_of exports_of_section l.export-iterator) (lists_of l.lists).exports
