-- The frame of a type as bytes: all of it but what its references name.
use Rattle.std.specs.Prelude.{ℕ, ◌+◌, Bool, List, [], ◌∷◌, ◌++◌, map, is_some, if◌then◌else◌}
use Rattle.std.specs.List.{flat_map}
use Rattle.wasm_spec.specs.TypeData.{Heap, Concrete, Abstract, Reference, ValueType, I32, I64, F32, F64, V128, Ref, Storage, I8, I16, Val, Field, Function, Composite, Func, Array, Struct, Cont, Exn, SubType, Group}
use Rattle.type_spec.specs.Same.{heap_byte}

abbrev pub flag : Bool → ℕ
flag b = if b then 1 else 0

-- a list of codes, and its end mark, which is not the code of a value or a field
abbrev pub ended : List ℕ → List ℕ
ended codes = codes ++ 0x0B ∷ []

module _ {H : Type 0} where
  abbrev pub heap_code : Heap H → ℕ
  heap_code (Concrete name) = 0x60
  heap_code (Abstract heap) = heap_byte heap

  abbrev pub reference_code : Reference H → ℕ
  reference_code r = if r.nullable then heap_code r.heap else heap_code r.heap + 128

  abbrev pub value_code : ValueType H → ℕ
  value_code I32 = 0x7F
  value_code I64 = 0x7E
  value_code F32 = 0x7D
  value_code F64 = 0x7C
  value_code V128 = 0x7B
  value_code (Ref r) = reference_code r

  abbrev pub storage_code : Storage H → ℕ
  storage_code I8 = 0x78
  storage_code I16 = 0x77
  storage_code (Val v) = value_code v

  abbrev pub field_codes : Field H → List ℕ
  field_codes f = storage_code f.element ∷ flag f.mutable ∷ []

  abbrev pub function_codes : Function H → List ℕ
  function_codes f = ended (map value_code f.params) ++ ended (map value_code f.results)

  abbrev pub fields_codes : List (Field H) → List ℕ
  fields_codes fields = ended (flat_map field_codes fields)

  module _ {R : Type 0} where
    abbrev pub composite_codes : Composite H R → List ℕ
    composite_codes (Func f) = 0x60 ∷ function_codes f
    composite_codes (Array f) = 0x5E ∷ field_codes f
    composite_codes (Struct fields) = 0x5F ∷ fields_codes fields
    composite_codes (Cont function) = 0x5D ∷ []
    composite_codes (Exn e) = 0x5C ∷ fields_codes e.fields

    abbrev pub head_codes : SubType H R → List ℕ
    head_codes t = flag t.is_final ∷ flag (is_some t.supertype) ∷ flag t.composite.shared ∷ []

    abbrev pub sub_type_codes : SubType H R → List ℕ
    sub_type_codes t = head_codes t ++ composite_codes t.composite.inner

    abbrev pub group_codes : Group H R → List ℕ
    group_codes g = flat_map sub_type_codes g
