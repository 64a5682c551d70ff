-- Fields that are placed one by one.
use Rattle.std.proofs.lemmas.Grind.{common_steps}
use Rattle.std.proofs.Common.{◌≡◌, ◌∙◌, ◌<◌, ◌≤◌, ◌+◌, ℕ, suc, Bool, List, [], ◌∷◌, ◌++◌, length, map, max, take, drop, refl, ap, sym, get_or, arith, take-append-drop, ⊎_elim}
use Rattle.std.proofs.Math.Seq.{take-suc}
use Rattle.std.proofs.lemmas.Bool.{cases_lt}
use Rattle.std.proofs.lemmas.List.{map-append, take_all}
use Rattle.std.proofs.lemmas.List.Sums.{fold-append}
use Rattle.std.specs.Int.{next_multiple_of}
use Rattle.std.specs.List.{fold, scan}
use Rattle.wasm_types.specs.Collected.{storage_is_object}
use Rattle.wasm_types.specs.declared.value.WasmValType.{WasmValType}
use Rattle.wasm_types.specs.declared.field.WasmStorageType.{WasmStorageType}
use Rattle.wasm_types.specs.declared.field.WasmFieldType.{WasmFieldType}
use Rattle.gc_layout.specs.declared.fields.GcStructLayoutField.{GcStructLayoutField}
use Rattle.gc_layout.specs.Sizes.{val_size, storage_size, field_size}
use Rattle.gc_layout.specs.Fields.{end_after, placed_after, placed_fields, fields_end, fields_align, fields_layout}

-- what the loop knows of the fields that it has placed
pub record ArePlaced (header : ℕ) (fields : List WasmFieldType) (end align : ℕ) (placed : List GcStructLayoutField) : Type 0 where
  pub ends : end ≡ fields_end header fields
  pub aligned : align ≡ fields_align fields
  pub listed : placed ≡ placed_fields header fields

pub val_size_positive : (t : WasmValType) → 0 < val_size t
val_size_positive t = grind (arith, common_steps)

pub storage_size_positive : (t : WasmStorageType) → 0 < storage_size t
storage_size_positive t = grind (arith, val_size_positive)

take-more : {X : Type 0} (xs : List X) (n : ℕ) (d : X) → n < length xs → take (n + 1) xs ≡ take n xs ++ get_or xs n d ∷ []
take-more xs n d lt = let one : n + 1 ≡ suc n = omega arith in rw one (take-suc xs n d lt)

pub scan-append : {S X Y : Type 0} (next : S → X → S) (out : S → X → Y) (a : S) (xs ys : List X)
    → scan next out a (xs ++ ys) ≡ scan next out a xs ++ scan next out (fold next a xs) ys
scan-append next out a [] ys = refl
scan-append next out a (x ∷ xs) ys = ap (λ rest. out a x ∷ rest) (scan-append next out (next a x) xs ys)

fields_align-append : (xs ys : List WasmFieldType) → fields_align (xs ++ ys) ≡ fold max (fields_align xs) (map field_size ys)
fields_align-append xs ys = ap (fold max 8) (map-append field_size xs ys) ∙ fold-append max 8 (map field_size xs) (map field_size ys)

pub placed_more : (header : ℕ) (fields : List WasmFieldType) (n : ℕ) (d : WasmFieldType) (end align : ℕ) (placed : List GcStructLayoutField)
    → n < length fields → ArePlaced header (take n fields) end align placed
    → ArePlaced header (take (n + 1) fields) (end_after end (get_or fields n d)) (max align (field_size (get_or fields n d)))
    (placed ++ placed_after end (get_or fields n d) ∷ [])
placed_more header fields n d end align placed lt before =
    let field = get_or fields n d in
    let more = take-more fields n d lt in
    record {
      ends = ap (λ end. end_after end field) before.ends ∙ sym (fold-append end_after header (take n fields) (field ∷ []))
          ∙ ap (fields_end header) (sym more);
      aligned = ap (λ align. max align (field_size field)) before.aligned ∙ sym (fields_align-append (take n fields) (field ∷ []))
          ∙ ap fields_align (sym more);
      listed = ap (λ placed. placed ++ placed_after end field ∷ []) before.listed
          ∙ ap (λ end. placed_fields header (take n fields) ++ placed_after end field ∷ []) before.ends
          ∙ sym (scan-append end_after placed_after header (take n fields) (field ∷ []))
          ∙ ap (placed_fields header) (sym more);
    }

-- the same, as the loop computes it
pub placed_step : (header : ℕ) (fields : List WasmFieldType) (n : ℕ) (d : WasmFieldType) (end align : ℕ) (placed : List GcStructLayoutField)
    (size offset field_end next_align : ℕ) (marked : Bool) (next_placed : List GcStructLayoutField)
    → n < length fields → ArePlaced header (take n fields) end align placed
    → size ≡ field_size (get_or fields n d) → offset ≡ next_multiple_of end size → field_end ≡ offset + size → next_align ≡ max align size
    → marked ≡ storage_is_object (get_or fields n d).element_type
    → next_placed ≡ placed ++ (record { offset = offset; is_gc_ref = marked }) ∷ []
    → ArePlaced header (take (n + 1) fields) field_end next_align next_placed
placed_step header fields n d end align placed size offset field_end next_align marked next_placed lt before sized begun ended most refs listed =
    let field = get_or fields n d in
    let at_offset : offset ≡ next_multiple_of end (field_size field) = begun ∙ ap (next_multiple_of end) sized in
    let at_end : field_end ≡ end_after end field = ended
    ∙ ap (λ offset. offset + size) at_offset
    ∙ ap (λ size. next_multiple_of end (field_size field) + size) sized in
    let at_align : next_align ≡ max align (field_size field) = most ∙ ap (max align) sized in
    let at_place : next_placed ≡ placed ++ placed_after end field ∷ [] = listed
    ∙ ap (λ offset. placed ++ (record { offset = offset; is_gc_ref = marked }) ∷ []) at_offset
    ∙ ap (λ marked. placed ++ (record { offset = next_multiple_of end (field_size field); is_gc_ref = marked }) ∷ []) refs in
    let more = placed_more header fields n d end align placed lt before in
    record {
      ends = at_end ∙ more.ends;
      aligned = at_align ∙ more.aligned;
      listed = at_place ∙ more.listed;
    }

-- no number is above the least multiple that is not below it
pub le-next_multiple_of : (n size : ℕ) → n ≤ next_multiple_of n size
le-next_multiple_of n size = omega arith

pub le-end_after : (end : ℕ) (field : WasmFieldType) → end ≤ end_after end field
le-end_after end field = omega arith

-- the fields before a position end before all of them do
pub le-fields_end : (header : ℕ) (fields : List WasmFieldType) → header ≤ fields_end header fields
le-fields_end header [] = omega arith
le-fields_end header (field ∷ fields) =
    omega (arith, le-end_after header field, le-fields_end (end_after header field) fields)

pub fields_end-take-le : (header : ℕ) (fields : List WasmFieldType) (n : ℕ) → fields_end header (take n fields) ≤ fields_end header fields
fields_end-take-le header fields n =
    let joined : fields_end header fields ≡ fields_end (fields_end header (take n fields)) (drop n fields) =
    ap (fields_end header) (sym (take-append-drop n fields)) ∙ fold-append end_after header (take n fields) (drop n fields) in
    omega (arith, joined, le-fields_end (fields_end header (take n fields)) (drop n fields))

-- where a field passes a limit, so does the size
pub past_field : (header : ℕ) (fields : List WasmFieldType) (is_exception : Bool) (n : ℕ) (d : WasmFieldType) (limit : ℕ)
    → n < length fields → limit < end_after (fields_end header (take n fields)) (get_or fields n d)
    → limit < (fields_layout header fields is_exception).size
past_field header fields is_exception n d limit lt past =
    let step : fields_end header (take (n + 1) fields) ≡ end_after (fields_end header (take n fields)) (get_or fields n d) =
    ap (fields_end header) (take-more fields n d lt) ∙ fold-append end_after header (take n fields) (get_or fields n d ∷ []) in
    omega (arith, step, fields_end-take-le header fields (n + 1), le-next_multiple_of (fields_end header fields) (fields_align fields))

-- the alignment is not 0
pub le-fold_max : (a : ℕ) (xs : List ℕ) → a ≤ fold max a xs
le-fold_max a [] = omega arith
le-fold_max a (x ∷ xs) = omega (arith, le-fold_max (max a x) xs)

pub fields_align_positive : (fields : List WasmFieldType) → 0 < fields_align fields
fields_align_positive fields = omega (arith, le-fold_max 8 (map field_size fields))

-- a number that is not below a limit is at least the limit
not_below : (n limit : ℕ) → (n < limit → ⊥) → limit ≤ n
not_below n limit wide = ⊎_elim (λ fits. absurd (wide fits)) (λ past. past) (cases_lt n limit)

-- an offset or an end that does not fit 32 bits
pub past_offset : (header : ℕ) (fields : List WasmFieldType) (is_exception : Bool) (n : ℕ) (d : WasmFieldType) (end size : ℕ)
    → n < length fields → end ≡ fields_end header (take n fields) → size ≡ field_size (get_or fields n d)
    → ((0 < size) × (next_multiple_of end size < 4294967296) → ⊥)
    → 4294967295 < (fields_layout header fields is_exception).size
past_offset header fields is_exception n d end size lt ended sized wide =
    let field = get_or fields n d in
    let positive : 0 < size = rw sized (storage_size_positive field.element_type) in
    let past : 4294967296 ≤ next_multiple_of end size =
    not_below (next_multiple_of end size) 4294967296 (λ fits. wide (positive, fits)) in
    let at_offset : next_multiple_of end size ≡ next_multiple_of (fields_end header (take n fields)) (field_size field) =
    ap (λ end. next_multiple_of end size) ended ∙ ap (next_multiple_of (fields_end header (take n fields))) sized in
    past_field header fields is_exception n d 4294967295 lt (omega (arith, at_offset, past))

pub past_end : (header : ℕ) (fields : List WasmFieldType) (is_exception : Bool) (n : ℕ) (d : WasmFieldType) (end size offset : ℕ)
    → n < length fields → end ≡ fields_end header (take n fields) → size ≡ field_size (get_or fields n d)
    → offset ≡ next_multiple_of end size → (offset + size < 4294967296 → ⊥)
    → 4294967295 < (fields_layout header fields is_exception).size
past_end header fields is_exception n d end size offset lt ended sized begun wide =
    let field = get_or fields n d in
    let past : 4294967296 ≤ offset + size = not_below (offset + size) 4294967296 wide in
    let at_offset : offset ≡ next_multiple_of (fields_end header (take n fields)) (field_size field) =
    begun ∙ ap (λ end. next_multiple_of end size) ended ∙ ap (next_multiple_of (fields_end header (take n fields))) sized in
    past_field header fields is_exception n d 4294967295 lt (omega (arith, at_offset, sized, past))

-- a size that does not fit
pub past_size : (header : ℕ) (fields : List WasmFieldType) (is_exception : Bool) (n end align : ℕ) (placed : List GcStructLayoutField)
    → length fields ≤ n → ArePlaced header (take n fields) end align placed
    → ((0 < align) × (next_multiple_of end align < 4294967296) → ⊥)
    → 4294967295 < (fields_layout header fields is_exception).size
past_size header fields is_exception n end align placed done walked wide = grind (arith, take_all, fields_align_positive, not_below)
