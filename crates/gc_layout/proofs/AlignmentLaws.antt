-- The greatest of 8 and the sizes of fields.
use Rattle.std.proofs.lemmas.Grind.{common_steps}
use Rattle.std.proofs.Common.{◌≡◌, ◌<◌, ◌≤◌, ◌⊎◌, ℕ, zero, suc, List, [], ◌∷◌, length, map, max, refl, arith, ⊎_elim, inl, inr}
use Rattle.std.specs.Prelude.{Contains}
use Rattle.std.specs.Int.{IsPowerOfTwo}
use Rattle.std.specs.List.{fold}
use Rattle.std.proofs.lemmas.Bool.{cases_lt}
use Rattle.wasm_types.specs.declared.value.WasmValType.{WasmValType}
use Rattle.wasm_types.specs.declared.field.WasmStorageType.{WasmStorageType}
use Rattle.wasm_types.specs.declared.field.WasmFieldType.{WasmFieldType}
use Rattle.gc_layout.specs.Sizes.{val_size, storage_size, field_size}
use Rattle.gc_layout.specs.Fields.{fields_align, size_at}
use Rattle.gc_layout.proofs.Placing.{le-fold_max}

pub at_least_eight : (fields : List WasmFieldType) → 8 ≤ fields_align fields
at_least_eight fields = le-fold_max 8 (map field_size fields)

size_at-le : (a : ℕ) (fields : List WasmFieldType) (i : ℕ) → i < length fields → size_at fields i ≤ fold max a (map field_size fields)
size_at-le a [] i lt = absurd (omega arith)
size_at-le a (field ∷ fields) zero lt = omega (arith, le-fold_max (max a (field_size field)) (map field_size fields))
size_at-le a (field ∷ fields) (suc i) lt = size_at-le (max a (field_size field)) fields i (omega arith)

pub of_each : (fields : List WasmFieldType) (i : ℕ) → i < length fields → size_at fields i ≤ fields_align fields
of_each = size_at-le 8

fold_max-reached : (a : ℕ) (xs : List ℕ) → (fold max a xs ≡ a) ⊎ Contains xs (fold max a xs)
fold_max-reached a [] = inl refl
fold_max-reached a (x ∷ xs) =
    ⊎_elim
    (λ first. ⊎_elim
    (λ above. let same : x ≡ fold max (max a x) xs = omega arith in inr (0, omega arith, same))
    (λ below. inl (omega arith))
    (cases_lt a x))
    (λ later. inr (suc later.0, omega arith, later.2))
    (fold_max-reached (max a x) xs)

pub one_of : (fields : List WasmFieldType) → (fields_align fields ≡ 8) ⊎ Contains (map field_size fields) (fields_align fields)
one_of fields = fold_max-reached 8 (map field_size fields)

val_size-bound : (t : WasmValType) → (val_size t ≤ 8) ⊎ (val_size t ≡ 16)
val_size-bound t = grind (arith, common_steps)

storage_size-bound : (t : WasmStorageType) → (storage_size t ≤ 8) ⊎ (storage_size t ≡ 16)
storage_size-bound t = grind (arith, val_size-bound)

-- so the alignment is 8 or 16
fold_max-eight_or_sixteen : (a : ℕ) (fields : List WasmFieldType) → (a ≡ 8) ⊎ (a ≡ 16)
    → (fold max a (map field_size fields) ≡ 8) ⊎ (fold max a (map field_size fields) ≡ 16)
fold_max-eight_or_sixteen a [] start = start
fold_max-eight_or_sixteen a (field ∷ fields) start = grind (arith, max, storage_size-bound, (fold_max-eight_or_sixteen (max a (field_size field)) fields (⊎_elim (λ eight. ⊎_elim (λ small. inl (omega arith)) (λ wide. inr (omega arith)) (storage_size-bound field.element_type)) (λ sixteen. ⊎_elim (λ small. inr (omega arith)) (λ wide. inr (omega arith)) (storage_size-bound field.element_type)) start)))

eight_or_sixteen-power : (n : ℕ) → (n ≡ 8) ⊎ (n ≡ 16) → IsPowerOfTwo n
eight_or_sixteen-power n (inl eight) = (3, eight)
eight_or_sixteen-power n (inr sixteen) = (4, sixteen)

pub power_of_two : (fields : List WasmFieldType) → IsPowerOfTwo (fields_align fields)
power_of_two fields = eight_or_sixteen-power (fields_align fields) (fold_max-eight_or_sixteen 8 fields (inl refl))
