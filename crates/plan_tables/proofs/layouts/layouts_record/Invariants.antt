use Rattle.std.proofs.Common.{◌≡◌, ◌++◌, length}
use Rattle.std.specs.List.{flat_map}
use Rattle.entity_map.specs.Keyed.{keyed}
use Rattle.wasm_index.specs.Index.{index_of}
use Rattle.plan_tables.specs.Layouts.{layout_rows, layout_fields}
use Rattle.plan_tables.proofs.layouts.layouts_record.Given as goal

abbrev pub invariant-loop-ty : goal.invariant-loop-ty
invariant-loop-ty l = record {
  rows : l.rows.items ++ layout_rows (length l.fields.items) l.ty-iterator ≡ layout_rows 0 (keyed index_of l.layouts);
  fields : l.fields.items ++ flat_map (λ p. layout_fields p.1) l.ty-iterator ≡ flat_map layout_fields l.layouts;
}
