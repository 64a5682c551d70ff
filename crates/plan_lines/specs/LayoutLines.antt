-- The lines of the layouts of objects of a garbage collector.
use Rattle.std.specs.Prelude.{ℕ, Bool, List, [], ◌++◌, Option, Some, None, if◌then◌else◌, codes, decimal}
use Rattle.std.specs.List.{flat_map}
use Rattle.wasm_index.specs.declared.index.Index.{Index}
use Rattle.wasm_index.specs.declared.spaces.ModuleInternedTypeSpace.{ModuleInternedTypeSpace}
use Rattle.wasm_index.specs.Index.{number_of}
use Rattle.gc_layout.specs.declared.array.GcArrayLayout.{GcArrayLayout}
use Rattle.gc_layout.specs.declared.fields.GcStructLayoutField.{GcStructLayoutField}
use Rattle.gc_layout.specs.declared.object.GcLayout.{GcLayout}
use Rattle.gc_layout.specs.declared.object.GcLayout.TheVariants as layout
use Rattle.gc_layout.specs.Fields.{FieldsLayout}
use Rattle.plan_lines.specs.Numbers.{named_number}

-- whether something is a reference that is collected
abbrev pub refs_text : Bool → List ℕ
refs_text refs = if refs then codes " refs yes\n" else codes " refs no\n"

unfoldable pub array_layout_line : Index ModuleInternedTypeSpace → GcArrayLayout → List ℕ
array_layout_line index a =
    named_number (codes "layout") (number_of index) ++ named_number (codes " array base") a.base_size
    ++ named_number (codes " align") a.align ++ named_number (codes " element") a.elem_size
    ++ refs_text a.elems_are_gc_refs

-- a field: its offset, and whether it is a reference that is collected
abbrev pub layout_field_text : GcStructLayoutField → List ℕ
layout_field_text f = codes " " ++ decimal f.offset ++ (if f.is_gc_ref then codes "r" else [])

-- the layout of a struct or an exception
unfoldable pub fields_layout_line : Index ModuleInternedTypeSpace → FieldsLayout → List ℕ
fields_layout_line index s =
    named_number (codes "layout") (number_of index) ++ named_number (if s.is_exception then codes " exn size" else codes " struct size") s.size
    ++ named_number (codes " align") s.align ++ codes " fields" ++ flat_map layout_field_text s.fields ++ codes "\n"

-- a type without a layout has no line
abbrev pub layout_lines : Index ModuleInternedTypeSpace → Option GcLayout → List ℕ
layout_lines index None = []
layout_lines index (Some (layout.Array a)) = array_layout_line index a
layout_lines index (Some (layout.Struct s)) = fields_layout_line index s.value
