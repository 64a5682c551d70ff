use Rattle.wasm_spec.specs.Module.{tables_of_section}
use Rattle.form_reader.specs.Views.{table_of}
use Rattle.rule_breaks.specs.Kept.{TableKeeps}
use Rattle.form_rules.specs.Sections.{entries_left}
use Rattle.form_rules.specs.Views.{lists_of}
use Rattle.rule_breaks.proofs.Searching.{Passes}
use Rattle.rule_breaks.proofs.entries.first_table.Given as goal

-- those so far keep the rule
abbrev pub invariant-loop-table : goal.invariant-loop-table
invariant-loop-table l = Passes (TableKeeps l.rule (lists_of l.typing.lists.now)) l.number (entries_left table_of tables_of_section l.table-iterator) (lists_of l.typing.lists.now).tables
