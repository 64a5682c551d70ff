use Rattle.wasm_spec.specs.Module.{imports, imports_of_section}
use Rattle.form_reader.specs.Views.{import_of}
use Rattle.form_rules.specs.Sections.{entries_left}
use Rattle.form_rules.specs.Source.{source_module}
use Rattle.rule_breaks.proofs.SoughtEntries.{SeeksImport}
use Rattle.rule_breaks.proofs.section_entries.indexed_entry.Given as goal

abbrev pub invariant-imports : goal.invariant-imports
invariant-imports l =
    SeeksImport l.kind l.number l.left l.index (entries_left import_of imports_of_section l.import-iterator) (imports (source_module l.source))
