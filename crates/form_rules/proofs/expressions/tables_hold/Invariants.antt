use Rattle.std.proofs.Common.{◌↔◌, All}
use Rattle.std.specs.List.{flat_map}
use Rattle.wasm_spec.specs.Module.{tables_of_section}
use Rattle.form_reader.specs.Views.{table_of}
use Rattle.rule_spec.specs.Expressions.{HasTypedInitialiser}
use Rattle.form_rules.specs.Source.{source_module}
use Rattle.form_rules.specs.Sections.{entries_left}
use Rattle.form_rules.specs.Views.{lists_of}
use Rattle.form_rules.proofs.expressions.tables_hold.Given as goal

-- all are typed exactly where the remaining ones are
abbrev pub invariant-loop-table : goal.invariant-loop-table
invariant-loop-table l = All (HasTypedInitialiser (lists_of l.typing.lists.now)) (entries_left table_of tables_of_section l.table-iterator)
    ↔ All (HasTypedInitialiser (lists_of l.typing.lists.now)) (flat_map tables_of_section (source_module l.typing.lists.now.source))
