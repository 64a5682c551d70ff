-- A list that was read, seen item by item as it is.
use Rattle.std.proofs.Common.{◌∙◌, ℕ, List, map, ap, Result, Ok, Err}
use Rattle.std.proofs.lemmas.List.{map-id}
use Rattle.form_reader.specs.Reading.{Fault, Gives}
use Rattle.form_reader.specs.declared.error.ReadError.{ReadError}

pub same_items : {V A : Type 0} (items : V → List A) (new : List ℕ) (result : Result V ReadError) (read : Result (List A × List ℕ) Fault)
    → Gives (λ v. (map (λ x. x) (items v), new)) result read → Gives (λ v. (items v, new)) result read
same_items {V} {A} items new (Ok v) read gives = gives ∙ ap (λ (xs : List A). Ok (xs, new)) (map-id (items v))
same_items items new (Err e) read gives = gives
