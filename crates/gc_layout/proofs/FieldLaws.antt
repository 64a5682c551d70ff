-- The offsets of fields, one by one.
use Rattle.std.proofs.Common.{◌≡◌, ◌<◌, ◌≤◌, ◌+◌, ℕ, zero, suc, Bool, List, [], ◌∷◌, length, map, take, refl, ap, arith}
use Rattle.std.proofs.lemmas.List.{take-take}
use Rattle.std.specs.Int.{next_multiple_of}
use Rattle.std.specs.List.{scan}
use Rattle.wasm_types.specs.declared.aggregate.WasmArrayType.{WasmArrayType}
use Rattle.gc_layout.specs.Arrays.{array_layout_of}
use Rattle.wasm_types.specs.declared.field.WasmFieldType.{WasmFieldType}
use Rattle.gc_layout.specs.declared.fields.GcStructLayoutField.{GcStructLayoutField}
use Rattle.gc_layout.specs.Sizes.{field_size}
use Rattle.gc_layout.specs.Fields.{end_after, placed_after, placed_fields, fields_end, fields_align, fields_layout, offset_at, size_at, IsLeastMultiple}
use Rattle.gc_layout.proofs.Multiples.{least_multiple}
use Rattle.gc_layout.proofs.Placing.{storage_size_positive, fields_align_positive, fields_end-take-le, le-fields_end}

abbrev offset_of : GcStructLayoutField → ℕ
offset_of field = field.offset

-- the offset at a position
offset_at_is : (header : ℕ) (fields : List WasmFieldType) (is_exception : Bool) (i : ℕ) → i < length fields
    → offset_at (fields_layout header fields is_exception) i ≡ next_multiple_of (fields_end header (take i fields)) (size_at fields i)
offset_at_is header [] is_exception i lt = absurd (omega arith)
offset_at_is header (field ∷ fields) is_exception zero lt = refl
offset_at_is header (field ∷ fields) is_exception (suc i) lt = offset_at_is (end_after header field) fields is_exception i (omega arith)

-- the end of the field there is the end of all fields up to it
end_at_is : (header : ℕ) (fields : List WasmFieldType) (is_exception : Bool) (i : ℕ) → i < length fields
    → offset_at (fields_layout header fields is_exception) i + size_at fields i ≡ fields_end header (take (suc i) fields)
end_at_is header [] is_exception i lt = absurd (omega arith)
end_at_is header (field ∷ fields) is_exception zero lt = refl
end_at_is header (field ∷ fields) is_exception (suc i) lt = end_at_is (end_after header field) fields is_exception i (omega arith)

size_at_positive : (fields : List WasmFieldType) (i : ℕ) → i < length fields → 0 < size_at fields i
size_at_positive [] i lt = absurd (omega arith)
size_at_positive (field ∷ fields) zero lt = storage_size_positive field.element_type
size_at_positive (field ∷ fields) (suc i) lt = size_at_positive fields i (omega arith)

pub offset_is_least : (header : ℕ) (fields : List WasmFieldType) (is_exception : Bool) (i : ℕ) → i < length fields
    → IsLeastMultiple (size_at fields i) (fields_end header (take i fields)) (offset_at (fields_layout header fields is_exception) i)
offset_is_least header fields is_exception i lt =
    rw (offset_at_is header fields is_exception i lt) (least_multiple _ _ (size_at_positive fields i lt))

pub size_is_least : (header : ℕ) (fields : List WasmFieldType) (is_exception : Bool)
    → IsLeastMultiple (fields_align fields) (fields_end header fields) (fields_layout header fields is_exception).size
size_is_least header fields is_exception = least_multiple _ _ (fields_align_positive fields)

pub behind_header : (header : ℕ) (fields : List WasmFieldType) (is_exception : Bool) (i : ℕ) → i < length fields
    → header ≤ offset_at (fields_layout header fields is_exception) i
behind_header header fields is_exception i lt =
    omega (arith, (offset_is_least header fields is_exception i lt).not_below, le-fields_end header (take i fields))

pub apart : (header : ℕ) (fields : List WasmFieldType) (is_exception : Bool) (i j : ℕ) → i < j → j < length fields
    → offset_at (fields_layout header fields is_exception) i + size_at fields i ≤ offset_at (fields_layout header fields is_exception) j
apart header fields is_exception i j before lt =
    let shorter : fields_end header (take (suc i) fields) ≤ fields_end header (take j fields) =
    rw (← ap (fields_end header) (take-take (suc i) j fields (omega arith))) (fields_end-take-le header (take j fields) (suc i)) in
    omega (arith, end_at_is header fields is_exception i (omega arith), shorter, (offset_is_least header fields is_exception j lt).not_below)

pub within : (header : ℕ) (fields : List WasmFieldType) (is_exception : Bool) (i : ℕ) → i < length fields
    → offset_at (fields_layout header fields is_exception) i + size_at fields i ≤ (fields_layout header fields is_exception).size
within header fields is_exception i lt =
    omega (arith, end_at_is header fields is_exception i lt, fields_end-take-le header fields (suc i), (size_is_least header fields is_exception).not_below)

-- offsets depend on sizes alone
abbrev end_of_size : ℕ → ℕ → ℕ
end_of_size end size = next_multiple_of end size + size

offsets_by_sizes : (header : ℕ) (fields : List WasmFieldType)
    → map offset_of (placed_fields header fields) ≡ scan end_of_size next_multiple_of header (map field_size fields)
offsets_by_sizes header [] = refl
offsets_by_sizes header (field ∷ fields) =
    ap (λ rest. next_multiple_of header (field_size field) ∷ rest) (offsets_by_sizes (end_after header field) fields)

take-placed : (header : ℕ) (fields : List WasmFieldType) (n : ℕ) → take n (placed_fields header fields) ≡ placed_fields header (take n fields)
take-placed header fields zero = refl
take-placed header [] (suc n) = refl
take-placed header (field ∷ fields) (suc n) = ap (λ rest. placed_after header field ∷ rest) (take-placed (end_after header field) fields n)

pub agree_on_prefix : (header : ℕ) (fields others : List WasmFieldType) (n : ℕ)
    → map field_size (take n fields) ≡ map field_size (take n others)
    → map offset_of (take n (placed_fields header fields)) ≡ map offset_of (take n (placed_fields header others))
agree_on_prefix header fields others n same = grind (arith, take-placed, offsets_by_sizes)

pub elements_are_least : (header : ℕ) (array : WasmArrayType)
    → IsLeastMultiple (field_size array.0) (header + 4) (array_layout_of header array).base_size
elements_are_least header array = least_multiple _ _ (storage_size_positive array.0.element_type)
