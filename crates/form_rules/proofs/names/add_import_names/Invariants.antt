use Rattle.std.proofs.Common.{◌≡◌}
use Rattle.std.specs.Hash.DefaultHasher as sip
use Rattle.std.specs.List.{flat_map, fold}
use Rattle.wasm_spec.specs.Module.{imports_of_section}
use Rattle.form_reader.specs.Views.{import_of}
use Rattle.form_rules.specs.Source.{source_module}
use Rattle.form_rules.specs.Sections.{entries_left}
use Rattle.form_rules.specs.Names.{import_names, imported_names}
use Rattle.form_rules.proofs.names.add_import_names.Given as goal

-- the remaining names are still to be added
abbrev pub invariant-loop-import : goal.invariant-loop-import
invariant-loop-import l = fold sip.write l.digest (flat_map import_names (entries_left import_of imports_of_section l.import-iterator))
    ≡ fold sip.write l.initial.digest (imported_names (source_module l.source))
