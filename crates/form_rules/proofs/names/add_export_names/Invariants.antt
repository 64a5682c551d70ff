use Rattle.std.proofs.Common.{◌≡◌}
use Rattle.std.specs.Hash.DefaultHasher as sip
use Rattle.std.specs.List.{flat_map, fold}
use Rattle.wasm_spec.specs.Module.{exports_of_section}
use Rattle.form_reader.specs.Views.{export_of}
use Rattle.form_rules.specs.Source.{source_module}
use Rattle.form_rules.specs.Sections.{entries_left}
use Rattle.form_rules.specs.Names.{exported_names}
use Rattle.form_rules.proofs.names.add_export_names.Given as goal

-- the remaining names are still to be added
abbrev pub invariant-loop-export : goal.invariant-loop-export
invariant-loop-export l = fold sip.write l.digest (exported_names (entries_left export_of exports_of_section l.export-iterator))
    ≡ fold sip.write l.initial.digest (exported_names (flat_map exports_of_section (source_module l.source)))
