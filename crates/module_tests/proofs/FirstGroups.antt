-- The next group of a list of types can be interned.
use Rattle.std.proofs.Common.{◌≡◌, ◌≤◌, ◌<◌, ℕ, zero, suc, ◌+◌, Bool, true, false, nat_eq, List, [], ◌∷◌, ◌++◌, length, get_or, take, replicate, Option, Some, None, OnOk, refl, sym, ap, inl, inr, arith}
use Rattle.std.specs.Prelude.{◌⊎◌, IsSome, if◌then◌else◌, Result, Ok, Err}
use Rattle.std.proofs.lemmas.Bool.{eq-eqb}
use Rattle.std.proofs.lemmas.List.{length-append}
use Rattle.std.proofs.lemmas.List.Elements.{All-weaker}
use Rattle.wasm_spec.specs.declared.types.UnpackedIndex.{UnpackedIndex}
use Rattle.wasm_spec.specs.declared.types.UnpackedIndex.TheVariants as index
use Rattle.wasm_spec.specs.TypeData.{group_edges}
use Rattle.type_spec.specs.Interned.{Interned}
use Rattle.form_types.specs.Types.{NamedGroup, TypesData, types_by_id, group_numbers, IsIdBelow, TypesAreSound}
use Rattle.form_types.specs.Numbered.{first_id}
use Rattle.module_types.specs.Builder.{Builder, new_builder, interns_by, interns}
use Rattle.module_types.specs.Conversion.{id_number, group_of_id, members_of, interned_members, NamesInterned, HoldsGroups}
use Rattle.module_types.proofs.FewTypes.{group-few}
use Rattle.module_types.proofs.Convertible.{names-earlier, members-long, members-kinds}
use Rattle.module_types.proofs.Holding.{holds-kept}
use Rattle.module_types.proofs.Places.{group-ends}
use Rattle.module_tests.specs.FirstGroups.{HoldsFirst, IsNextOrLast}

pub on-ok : {A E P Q : Type 0} (r : Result A E) → (P → Q) → OnOk r P → OnOk r Q
on-ok (Ok x) f p = f p
on-ok (Err e) f p = tt

-- ---- what a group names

split : (count base : ℕ) (rest : List ℕ) (n bound : ℕ) → base ≤ bound → ((m : ℕ) → n ≡ m + count → get_or rest m 0 ≤ bound)
    → get_or (replicate count base ++ rest) n 0 ≤ bound
split zero base rest n bound le low = low n (omega arith)
split (suc count) base rest zero bound le low = le
split (suc count) base rest (suc n) bound le low = split count base rest n bound le (λ m e. low m (omega (arith, e)))

-- an id before the end of a group is in that group or an earlier one
low-group : (base : ℕ) (gs : List NamedGroup) (k n : ℕ) → n < first_id gs k + length (get_or gs k []) → get_or (group_numbers base gs) n 0 ≤ base + k
low-group base [] k n h = omega arith
low-group base (g ∷ gs) zero n h =
    split (length g) base (group_numbers (base + 1) gs) n (base + 0) (omega arith) (λ m e. absurd (omega (arith, h, e)))
low-group base (g ∷ gs) (suc k) n h =
    split (length g) base (group_numbers (base + 1) gs) n (base + suc k) (omega arith)
    (λ m e. let low = low-group (base + 1) gs k m (omega (arith, h, e, length-append g (types_by_id (take k gs)))) in omega (arith, low))

at-or-below : (x k : ℕ) → x ≤ k → (x ≡ k) ⊎ (x < k)
at-or-below zero zero h = inl refl
at-or-below zero (suc k) h = inr (omega arith)
at-or-below (suc x) zero h = absurd (omega (arith, h))
at-or-below (suc x) (suc k) h = elim (at-or-below x k (omega (arith, h))) [ inl e ↦ inl (ap (λ n. suc n) e) | inr lt ↦ inr (omega (arith, lt)) ]

-- ---- how many types there are

module _ (t : TypesData) (b : Builder) (k : ℕ) where
  abbrev ts : List Interned
  ts = interned_members t b k

  members-few : TypesAreSound t → length ts ≤ 1073741823
  members-few sound = omega (arith, members-long t b k, group-ends t.groups k, sound.few)

  names : TypesAreSound t → ((m : ℕ) → m < k → IsSome (b.ids m)) → NamesInterned t b k
  names sound first =
      All-weaker (IsIdBelow (0 + (first_id t.groups k + length (members_of t k)))) (λ i. (group_of_id t (id_number i) ≡ k) ⊎ IsSome (b.ids (group_of_id t (id_number i))))
      each (group_edges (λ r. r) (members_of t k)) (names-earlier 0 t.groups k sound.references) where
        by : (id : ℕ) → (group_of_id t id ≡ k) ⊎ (group_of_id t id < k) → (group_of_id t id ≡ k) ⊎ IsSome (b.ids (group_of_id t id))
        by id (inl same) = inl same
        by id (inr lt) = inr (first (group_of_id t id) lt)

        each : (i : UnpackedIndex) → IsIdBelow (0 + (first_id t.groups k + length (members_of t k))) i
            → (group_of_id t (id_number i) ≡ k) ⊎ IsSome (b.ids (group_of_id t (id_number i)))
        each (index.Id id) lt =
            let low = low-group 0 t.groups k id.0 (omega (arith, lt)) in
            by id.0 (at-or-below (group_of_id t id.0) k (omega (arith, low)))
        each (index.Module n) lt = absurd lt
        each (index.RecGroup n) lt = absurd lt

  pub next-holds : IsNextOrLast t b k → HoldsGroups t b
  next-holds (inl h) = h.holds
  next-holds (inr h) = h.holds

  pub next-named : IsNextOrLast t b k → NamesInterned t b k
  next-named (inl h) = names h.sound h.first
  next-named (inr h) = names h.sound (λ m lt. h.first m (omega (arith, lt)))

  not-held : (n : ℕ) → HoldsFirst t b n → k < n → b.ids k ≡ None → ⊥
  not-held n h lt none = by (b.ids k) (h.first k lt) none where
    by : (o : Option ℕ) → IsSome o → o ≡ None → ⊥
    by None some e = cc
    by (Some j) some e = cc

  first-by : HoldsFirst t b k → (ids : ℕ → Option ℕ) → ((m : ℕ) → IsSome (b.ids m) → IsSome (ids m)) → IsSome (ids k) → (m : ℕ) → m < k + 1 → IsSome (ids m)
  first-by h ids kept here m lt = by (at-or-below m k (omega (arith, lt))) where
    by : (m ≡ k) ⊎ (m < k) → IsSome (ids m)
    by (inl same) = coe 0 1 (j. IsSome (ids (sym same j))) here
    by (inr below) = kept m (h.first m below)

  later-by : HoldsFirst t b k → (o : Option ℕ) → b.ids k ≡ o → HoldsFirst t (interns_by b k ts o) (k + 1)
  later-by h (Some j) held = record {
    sound = h.sound;
    holds = h.holds;
    first = first-by h b.ids (λ m some. some) (coe 0 1 (i. IsSome (sym held i)) refl);
    few = omega (arith, h.few);
  }
  later-by h None none = record {
    sound = h.sound;
    holds = coe 0 1 (j. HoldsGroups t (interns_by b k ts (none j))) (holds-kept t b k ts h.holds (members-kinds t b k));
    first = first-by h (interns_by b k ts None).ids (λ m some. by m some (nat_eq k m)) (here (nat_eq k k) (eq-eqb k k refl));
    few = omega (arith, h.few, group-few b.built ts, members-few h.sound);
  } where
    by : (m : ℕ) → IsSome (b.ids m) → (test : Bool) → IsSome (if test then Some (length b.built.groups) else b.ids m)
    by m some true = refl
    by m some false = some

    here : (test : Bool) → test ≡ true → IsSome (if test then Some (length b.built.groups) else b.ids k)
    here true e = refl
    here false e = absurd cc

  pub next-later : IsNextOrLast t b k → HoldsFirst t (interns b k ts) (k + 1)
  next-later (inl h) = later-by h (b.ids k) refl
  next-later (inr h) = by (b.ids k) refl where
    by : (o : Option ℕ) → b.ids k ≡ o → HoldsFirst t (interns_by b k ts o) (k + 1)
    by (Some j) held = h
    by None none = absurd (not-held (k + 1) h (omega arith) none)

  pub next-room : IsNextOrLast t b k → k < 2 → length (interns b k ts).built.types < 4294967295
  next-room next lt = let h = next-later next in omega (arith, h.few, lt)

-- a new builder holds none
pub none-first : (t : TypesData) (validator : ℕ) → TypesAreSound t → HoldsFirst t (new_builder validator) 0
none-first t validator sound = record {
  sound = sound;
  holds = λ k j e. absurd cc;
  first = λ k lt. absurd (omega (arith, lt));
  few = omega arith;
}
