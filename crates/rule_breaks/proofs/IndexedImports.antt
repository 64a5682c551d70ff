-- Imports of a kind, counted by their kind and by what they import.
use Rattle.std.proofs.Common.{◌≡◌, ℕ, zero, suc, ◌<◌, Bool, true, false, List, [], ◌∷◌, ◌++◌, length, take, drop, Option, Some, None, Result, Ok, Err, refl, sym, ap, ◌∙◌, arith, inl, inr}
use Rattle.std.specs.Prelude.{IfOk, slice_get}
use Rattle.std.specs.List.{filter_map}
use Rattle.std.proofs.lemmas.List.{length-append}
use Rattle.std.proofs.lemmas.List.Elements.{filter_map-append}
use Rattle.wasm_spec.specs.declared.entities.TypeRef.{TypeRef}
use Rattle.wasm_spec.specs.declared.entities.TypeRef.TheVariants as imported
use Rattle.wasm_spec.specs.declared.entities.ExternalKind.{ExternalKind}
use Rattle.wasm_spec.specs.declared.entities.ExternalKind.TheVariants as external
use Rattle.wasm_spec.specs.Module as plain
use Rattle.wasm_spec.specs.Module.{Import, Module, imported_of}
use Rattle.refusal_place.specs.declared.kind.SectionKind.{SectionKind}
use Rattle.rule_breaks.specs.declared.section_entries.SectionEntry.{SectionEntry}
use Rattle.rule_breaks.specs.ImportKinds.{is_import_of, imported_count, IsIndexed}
use Rattle.rule_breaks.specs.SectionEntries.{IsInIndexSpace}

abbrev is_some : {A : Type 0} → Option A → Bool
is_some (Some x) = true
is_some None = false

some_is : {A : Type 0} (o : Option A) → is_some o ≡ true → (x : A) × (o ≡ Some x)
some_is (Some x) is = (x, refl)
some_is None is = absurd cc

-- a list, about one of its entries
around : {X : Type 0} (xs : List X) (k : ℕ) (x : X) → slice_get xs k ≡ Some x → xs ≡ take k xs ++ x ∷ drop (suc k) xs
around [] k x is = absurd cc
around (y ∷ xs) zero x is = let same : y ≡ x = cc in ap (λ z. z ∷ xs) same
around (y ∷ xs) (suc k) x is = ap (λ zs. y ∷ zs) (around xs k x is)

module _ {A : Type 0} (of : TypeRef → Option A) (k : ExternalKind) (same : (t : TypeRef) → is_import_of k t ≡ is_some (of t)) where
  counts_alike : (is : List Import) → imported_count k is ≡ length (filter_map (λ i. of i.type) is)
  counts_alike [] = refl
  counts_alike (i ∷ is) = by (of i.type) refl (counts_alike is) where
    by : (o : Option A) → of i.type ≡ o → imported_count k is ≡ length (filter_map (λ i. of i.type) is)
        → imported_count k (i ∷ is) ≡ length (filter_map (λ i. of i.type) (i ∷ is))
    by (Some x) e later = rw (same i.type, e) (ap suc later)
    by None e later = rw (same i.type, e) later

  import_below : (is : List Import) (n e : ℕ) (i : Import) (x : A) → slice_get is e ≡ Some i → of i.type ≡ Some x
      → length (filter_map (λ i. of i.type) (take e is)) ≡ n → n < length (filter_map (λ i. of i.type) is)
  import_below is n e i x at some counted =
      let kinds : List Import → List A = filter_map (λ i. of i.type) in
      let one : length (kinds (i ∷ drop (suc e) is)) ≡ suc (length (kinds (drop (suc e) is))) = rw some refl in
      omega (
        arith,
        ap length (ap kinds (around is e i at) ∙ filter_map-append (λ i. of i.type) (take e is) (i ∷ drop (suc e) is)),
        length-append (kinds (take e is)) (kinds (i ∷ drop (suc e) is)),
        one,
        counted,
      )

  in_space : (defining section : SectionKind) (m : Module) (n e : ℕ) → IsIndexed k defining (plain.imports m) n section e → IsInIndexSpace of defining m n section e
  in_space defining section m n e (inl (is, u)) =
      let some = some_is (of u.import.type) (sym (same u.import.type) ∙ u.is_of_kind) in
      let counted = sym (counts_alike (take e (plain.imports m))) ∙ u.before in
      inl (
        import_below (plain.imports m) n e u.import some.0 u.stands some.1 counted,
        is,
        record { import = u.import; imported = some.0; stands = u.stands; is_of_kind = some.1; before = counted },
      )
  in_space defining section m n e (inr (is, counted)) = inr (is, omega (arith, counts_alike (plain.imports m), counted))

  -- the same of what a function returned
  pub indexed_in_space : {E : Type 0} (defining : SectionKind) (m : Module) (n : ℕ) (r : Result SectionEntry E)
      → IfOk r (λ e. IsIndexed k defining (plain.imports m) n e.section e.entry) → IfOk r (λ e. IsInIndexSpace of defining m n e.section e.entry)
  indexed_in_space defining m n (Ok e) is = in_space defining e.section m n e.entry is
  indexed_in_space defining m n (Err e) is = tt

pub functions_alike : (t : TypeRef) → is_import_of external.Func t ≡ is_some (plain.function_import t)
functions_alike (imported.Func type) = refl
functions_alike t = refl

pub tables_alike : (t : TypeRef) → is_import_of external.Table t ≡ is_some (plain.table_import t)
tables_alike (imported.Table type) = refl
tables_alike t = refl

pub memories_alike : (t : TypeRef) → is_import_of external.Memory t ≡ is_some (plain.memory_import t)
memories_alike (imported.Memory type) = refl
memories_alike t = refl

pub tags_alike : (t : TypeRef) → is_import_of external.Tag t ≡ is_some (plain.tag_import t)
tags_alike (imported.Tag type) = refl
tags_alike t = refl
