-- Consecutive ids, one by one.
use Rattle.std.proofs.Common.{◌≡◌, ◌∙◌, ℕ, ◌+◌, List, [], ◌∷◌, ◌++◌, refl, sym, ap, append_assoc}
use Rattle.std.specs.List.{range_with_len}
use Rattle.std.proofs.lemmas.List.{map-append}
use Rattle.std.proofs.lemmas.List.FromFn.{map-range_with_len_more}
use Rattle.type_spec.specs.ListLaws.{map-same}
use Rattle.wasm_spec.specs.declared.types.CoreTypeId.{CoreTypeId}
use Rattle.form_types.specs.EarlierTypes.{ids_of}

range-more : (first k : ℕ) → range_with_len first (k + 1) ≡ range_with_len first k ++ (first + k) ∷ []
range-more first k =
    sym (map-same (λ n. n) (λ n. refl) (range_with_len first (k + 1))) ∙ map-range_with_len_more (λ n. n) first k (first + k) refl
    ∙ ap (λ l. l ++ (first + k) ∷ []) (map-same (λ n. n) (λ n. refl) (range_with_len first k))

pub row_more : (old new : List CoreTypeId) (first k : ℕ) → ids_of new ≡ ids_of old ++ range_with_len first k
    → ids_of (new ++ record { 0 = first + k } ∷ []) ≡ ids_of old ++ range_with_len first (k + 1)
row_more old new first k is =
    map-append (λ (id : CoreTypeId). id.0) new (record { 0 = first + k } ∷ [])
    ∙ ap (λ l. l ++ (first + k) ∷ []) is ∙ append_assoc (ids_of old) (range_with_len first k) ((first + k) ∷ [])
    ∙ ap (λ l. ids_of old ++ l) (sym (range-more first k))
