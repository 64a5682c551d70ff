use Rattle.wasm_spec.specs.Module.{imports, imports_of_section}
use Rattle.form_reader.specs.Views.{import_of}
use Rattle.form_rules.specs.Source.{source_module}
use Rattle.form_rules.specs.Sections.{entries_left}
use Rattle.form_rules.specs.Gathered.{AddsImports}
use Rattle.form_rules.specs.declared.lists.Spaces.{Spaces}
use Rattle.form_rules.proofs.gather.add_all_imports.Given as goal

-- once the remaining imports are added, all are added
abbrev pub invariant-loop-import : goal.invariant-loop-import
invariant-loop-import l = (later : Spaces) → AddsImports l.spaces later (entries_left import_of imports_of_section l.import-iterator)
    → AddsImports l.initial.spaces later (imports (source_module l.source))
