use Rattle.std.specs.List.{flat_map}
use Rattle.wasm_spec.specs.Module.{exports_of_section}
use Rattle.form_reader.specs.Views.{export_of}
use Rattle.form_rules.specs.Source.{source_module}
use Rattle.form_rules.specs.Sections.{entries_left}
use Rattle.form_rules.proofs.ExportNames.{Gathers}
use Rattle.form_rules.proofs.names.pool_of_exports.Given as goal

abbrev pub invariant-loop-export : goal.invariant-loop-export
invariant-loop-export l = Gathers l.pool (entries_left export_of exports_of_section l.export-iterator) (flat_map exports_of_section (source_module l.source))
