use Rattle.std.proofs.Common.{◌≤◌}
use Rattle.wasm_spec.specs.Module.{exports_of_section}
use Rattle.form_reader.specs.Views.{export_of}
use Rattle.form_rules.specs.Sections.{entries_left}
use Rattle.form_rules.specs.Views.{lists_of}
use Rattle.rule_breaks.proofs.Searching.{Passes}
use Rattle.rule_breaks.proofs.Earlier.{IsOther}
use Rattle.rule_breaks.proofs.faults_entries.earlier_export.Given as goal

-- those so far have other names
abbrev pub invariant-loop-export : goal.invariant-loop-export
invariant-loop-export l = record {
  few : l.number ≤ l.entry;
  passes : Passes (IsOther l.name) l.number (entries_left export_of exports_of_section l.export-iterator) (lists_of l.lists).exports;
}
