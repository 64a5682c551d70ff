-- The size of an object is given by its type as data.
use Rattle.std.proofs.Common.{◌≡◌, ◌∙◌, ℕ, ◌+◌, List, [], ◌∷◌, map, refl, sym, ap}
use Rattle.std.specs.Prelude.{max}
use Rattle.std.specs.Int.{next_multiple_of}
use Rattle.std.specs.List.{fold}
use Rattle.std.proofs.lemmas.List.Folds.{fold-map}
use Rattle.wasm_spec.specs.TypeData as types
use Rattle.wasm_spec.specs.TypeData.{map_field, map_composite}
use Rattle.wasm_types.specs.declared.index.EngineOrModuleTypeIndex.{EngineOrModuleTypeIndex}
use Rattle.wasm_types.specs.declared.value.WasmValType.TheVariants as val
use Rattle.wasm_types.specs.declared.value.WasmValType.{WasmValType}
use Rattle.wasm_types.specs.declared.field.WasmStorageType.TheVariants as storage
use Rattle.wasm_types.specs.declared.field.WasmStorageType.{WasmStorageType}
use Rattle.wasm_types.specs.declared.field.WasmFieldType.{WasmFieldType}
use Rattle.wasm_types.specs.declared.composite.WasmCompositeInnerType.{WasmCompositeInnerType}
use Rattle.wasm_types.specs.declared.composite.WasmCompositeInnerType.TheVariants as inner
use Rattle.wasm_types.specs.ValueViews.{Name, value_of, storage_of, field_of}
use Rattle.wasm_types.specs.TypeViews.{composite_of}
use Rattle.gc_layout.specs.Sizes.{val_size, storage_size, field_size}
use Rattle.gc_layout.specs.Fields.{end_after}
use Rattle.gc_layout.specs.Objects.{gc_layout_of, fixed_size}

abbrev end_by : ℕ → ℕ → ℕ
end_by end size = next_multiple_of end size + size

-- the size of an object with fields of these sizes
abbrev whole : ℕ → List ℕ → ℕ
whole header sizes = next_multiple_of (fold end_by header sizes) (fold max 8 sizes)

module _ {H : Type 0} where
  abbrev value_bytes : types.ValueType H → ℕ
  value_bytes types.I64 = 8
  value_bytes types.F64 = 8
  value_bytes types.V128 = 16
  value_bytes v = 4

  abbrev storage_bytes : types.Storage H → ℕ
  storage_bytes types.I8 = 1
  storage_bytes types.I16 = 2
  storage_bytes (types.Val v) = value_bytes v

  abbrev field_bytes : types.Field H → ℕ
  field_bytes f = storage_bytes f.element

  abbrev object_bytes : {R : Type 0} → ℕ → types.Composite H R → ℕ
  object_bytes header (types.Array f) = next_multiple_of (header + 4) (field_bytes f)
  object_bytes header (types.Struct fs) = whole header (map field_bytes fs)
  object_bytes header (types.Exn e) = whole (header + 8) (map field_bytes e.fields)
  object_bytes header c = 0

module _ {H R : Type 0} (h : Name → H) (r : EngineOrModuleTypeIndex → R) where
  same-value : (v : WasmValType) → val_size v ≡ value_bytes (types.map_value h (value_of v))
  same-value val.I32 = refl
  same-value v = refl

  same-storage : (s : WasmStorageType) → storage_size s ≡ storage_bytes (types.map_storage h (storage_of s))
  same-storage (storage.Val v) = same-value v
  same-storage s = refl

  same-fields : (fs : List WasmFieldType) → map field_size fs ≡ map field_bytes (map (map_field h) (map field_of fs))
  same-fields [] = refl
  same-fields (f ∷ fs) = λ i. same-storage f.element_type i ∷ same-fields fs i

  same-whole : (header : ℕ) (fs : List WasmFieldType)
      → next_multiple_of (fold end_after header fs) (fold max 8 (map field_size fs)) ≡ whole header (map field_bytes (map (map_field h) (map field_of fs)))
  same-whole header fs =
      ap (λ n. next_multiple_of n (fold max 8 (map field_size fs))) (sym (fold-map end_by field_size header fs)) ∙ ap (whole header) (same-fields fs)

  object_size-told : (header : ℕ) (c : WasmCompositeInnerType) → fixed_size (gc_layout_of header c) ≡ object_bytes header (map_composite h r (composite_of c))
  object_size-told header (inner.Array t) = ap (next_multiple_of (header + 4)) (same-storage t.0.element_type)
  object_size-told header (inner.Struct t) = same-whole header t
  object_size-told header (inner.Exn t) = same-whole (header + 8) t.fields
  object_size-told header c = refl

  -- types that are the same data have objects of one size
  pub same-size : (header : ℕ) (c d : WasmCompositeInnerType) → map_composite h r (composite_of c) ≡ map_composite h r (composite_of d)
      → fixed_size (gc_layout_of header c) ≡ fixed_size (gc_layout_of header d)
  same-size header c d same = object_size-told header c ∙ ap (object_bytes header) same ∙ sym (object_size-told header d)
