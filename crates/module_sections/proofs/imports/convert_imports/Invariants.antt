use Rattle.std.proofs.Common.{◌≡◌, ◌++◌, List}
use Rattle.wasm_spec.specs.Module as plain
use Rattle.form_reader.specs.Views.{import_of}
use Rattle.form_rules.specs.Source.{source_module}
use Rattle.form_rules.specs.Sections.{entries_left}
use Rattle.module_sections.specs.Imported.{BecomeInitializers}
use Rattle.module_sections.proofs.imports.convert_imports.Given as goal

-- the imports so far are converted
abbrev pub invariant-loop-import : goal.invariant-loop-import
invariant-loop-import l = (came : List plain.Import) × BecomeInitializers l.initial.strings came l.strings l.initializers.items l.counts
    × (came ++ entries_left import_of plain.imports_of_section l.import-iterator ≡ plain.imports (source_module l.source))
