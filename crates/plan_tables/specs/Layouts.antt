-- What the tables say of the layouts of objects.
use Rattle.std.specs.Prelude.{◌≡◌, ℕ, ◌+◌, List, [], ◌∷◌, length, map, Option, Some, None, if◌then◌else◌}
use Rattle.std.specs.List.{flat_map}
use Rattle.entity_map.specs.Keyed.{keyed}
use Rattle.wasm_index.specs.Index.{number_of, index_of}
use Rattle.gc_layout.specs.declared.array.GcArrayLayout.{GcArrayLayout}
use Rattle.gc_layout.specs.declared.fields.GcStructLayoutField.{GcStructLayoutField}
use Rattle.gc_layout.specs.declared.object.GcLayout.{GcLayout}
use Rattle.gc_layout.specs.declared.object.GcLayout.TheVariants as layout
use Rattle.gc_layout.specs.Fields.{FieldsLayout}
use Rattle.module_types.specs.Views.{TypeIndex}
use Rattle.plan_tables.specs.declared.record.LayoutsRecord.{LayoutsRecord}
use Rattle.plan_tables.specs.declared.rows.LayoutFieldRow.{LayoutFieldRow}
use Rattle.plan_tables.specs.declared.rows.LayoutRow.{LayoutRow}
use Rattle.plan_tables.specs.declared.rows.Span.{Span}
use Rattle.plan_tables.specs.Numbers.{bit}

abbrev pub field_row : GcStructLayoutField → LayoutFieldRow
field_row f = record { offset = f.offset; is_ref = bit f.is_gc_ref }

-- an array; it has no fields
abbrev pub array_row : TypeIndex → ℕ → GcArrayLayout → LayoutRow
array_row ty begin a = record {
  ty = number_of ty;
  kind = 0;
  size = a.base_size;
  align = a.align;
  element = a.elem_size;
  refs = bit a.elems_are_gc_refs;
  fields = record { begin = begin; len = 0 };
}

-- a struct or an exception
abbrev pub struct_row : TypeIndex → Span → FieldsLayout → LayoutRow
struct_row ty fields s = record {
  ty = number_of ty;
  kind = if s.is_exception then 2 else 1;
  size = s.size;
  align = s.align;
  element = 0;
  refs = 0;
  fields = fields;
}

abbrev pub fields_of : GcLayout → List LayoutFieldRow
fields_of (layout.Array a) = []
fields_of (layout.Struct s) = map field_row s.value.fields

-- a layout whose fields are behind n others
abbrev pub layout_row : ℕ → TypeIndex → GcLayout → LayoutRow
layout_row n ty (layout.Array a) = array_row ty n a
layout_row n ty (layout.Struct s) = struct_row ty (record { begin = n; len = length s.value.fields }) s.value

abbrev pub layout_rows : ℕ → List (TypeIndex × Option GcLayout) → List LayoutRow
layout_rows n [] = []
layout_rows n ((ty, None) ∷ ls) = layout_rows n ls
layout_rows n ((ty, Some l) ∷ ls) = layout_row n ty l ∷ layout_rows (n + length (fields_of l)) ls

abbrev pub layout_fields : Option GcLayout → List LayoutFieldRow
layout_fields None = []
layout_fields (Some l) = fields_of l

-- the layouts of the types that have one, their fields end to end
pub record TellsLayouts (layouts : List (Option GcLayout)) (r : LayoutsRecord) : Type 0 where
  pub rows : r.rows.now ≡ layout_rows 0 (keyed index_of layouts)
  pub fields : r.fields.now ≡ flat_map layout_fields layouts
