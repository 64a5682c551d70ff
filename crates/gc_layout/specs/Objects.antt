-- The layouts of the objects of composite types.
use Rattle.std.specs.Prelude.{ℕ, Option, Some, None}
use Rattle.wasm_types.specs.declared.composite.WasmCompositeInnerType.{WasmCompositeInnerType}
use Rattle.wasm_types.specs.declared.composite.WasmCompositeInnerType.TheVariants.{Array, Func, Struct, Cont, Exn}
use Rattle.gc_layout.specs.declared.array.GcArrayLayout.{GcArrayLayout}
use Rattle.gc_layout.specs.declared.object.GcLayout.{GcLayout}
use Rattle.gc_layout.specs.declared.object.GcLayout.TheVariants as layout
use Rattle.gc_layout.specs.Fields.{FieldsLayout, struct_layout_of, exn_layout_of}
use Rattle.gc_layout.specs.Arrays.{array_layout_of}

-- how contracts view a layout, whoever shares it
pub data ObjectLayout : Type 0 where
  OfArray : GcArrayLayout → ObjectLayout
  OfFields : FieldsLayout → ObjectLayout

-- a layout as contracts view it
abbrev pub object_layout : GcLayout → ObjectLayout
object_layout (layout.Array a) = OfArray a
object_layout (layout.Struct s) = OfFields s.value

-- the array layout, where the layout is one
abbrev pub array_in : GcLayout → Option GcArrayLayout
array_in (layout.Array a) = Some a
array_in (layout.Struct _) = None

-- the struct or exception layout, where the layout is one
abbrev pub struct_in : GcLayout → Option FieldsLayout
struct_in (layout.Array _) = None
struct_in (layout.Struct s) = Some s.value

-- the layout of the objects of a composite type; functions and continuations are not objects of the collector
abbrev pub gc_layout_of : ℕ → WasmCompositeInnerType → Option ObjectLayout
gc_layout_of header (Array t) = Some (OfArray (array_layout_of header t))
gc_layout_of header (Func _) = None
gc_layout_of header (Struct t) = Some (OfFields (struct_layout_of header t))
gc_layout_of header (Cont _) = None
gc_layout_of header (Exn t) = Some (OfFields (exn_layout_of header t))

-- the bytes of an object; of an array, those before its elements
abbrev pub fixed_size : Option ObjectLayout → ℕ
fixed_size None = 0
fixed_size (Some (OfArray a)) = a.base_size
fixed_size (Some (OfFields s)) = s.size
