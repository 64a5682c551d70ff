use Rattle.std.proofs.Common.{length}
use Rattle.wasm_spec.specs.Module.{Import, imports_of_section}
use Rattle.form_reader.specs.Views.{import_of}
use Rattle.rule_spec.specs.References.{ImportRefersIn}
use Rattle.form_rules.specs.Sections.{entries_left}
use Rattle.form_rules.specs.Views.{lists_of}
use Rattle.rule_breaks.proofs.Searching.{Passes}
use Rattle.rule_breaks.proofs.entries.first_import.Given as goal

-- those so far keep the rule
abbrev pub invariant-loop-import : goal.invariant-loop-import
invariant-loop-import l = Passes (λ (i : Import). ImportRefersIn (length (lists_of l.lists).types) i.type) l.number (entries_left import_of imports_of_section l.import-iterator) (lists_of l.lists).imports
