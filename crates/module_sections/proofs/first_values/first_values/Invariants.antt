use Rattle.std.proofs.Common.{◌≡◌, ◌+◌, ◌<◌, ◌++◌, length, map, All}
use Rattle.std.specs.Prelude.{IfSome}
use Rattle.std.specs.List.{flat_map}
use Rattle.wasm_spec.specs.Module.{tables_of_section}
use Rattle.form_reader.specs.Views.{table_of}
use Rattle.form_rules.specs.Source.{source_module}
use Rattle.form_rules.specs.Sections.{entries_left}
use Rattle.module_sections.specs.Convertible.{IsConvertible}
use Rattle.module_sections.specs.Escapes.{referred_if_any}
use Rattle.module_sections.specs.EscapeLog.{after_escapes}
use Rattle.module_sections.specs.Initialisers.{first_values, view_first_value}
use Rattle.module_sections.proofs.first_values.first_values.Given as goal

-- with what the remaining tables give, all are gathered
abbrev pub invariant-loop-table : goal.invariant-loop-table
invariant-loop-table g l =
    let env = goal.TypeConvert-dyn g l.env.now in
    let look = env.look_up l.env.now.1 in
    let all = flat_map tables_of_section (source_module l.source) in
    let tables = entries_left table_of tables_of_section l.table-iterator in
    record {
      convertible : All (λ t. IfSome t.init (IsConvertible (env.knows l.env.now.1) l.initial.escaping.count)) tables;
      few : length l.values + length tables < 4294967295;
      values : map view_first_value l.values ++ first_values look tables ≡ first_values look all;
      noted : after_escapes l.escaping (flat_map (λ t. referred_if_any t.init) tables)
          ≡ after_escapes l.initial.escaping (flat_map (λ t. referred_if_any t.init) all);
    }
