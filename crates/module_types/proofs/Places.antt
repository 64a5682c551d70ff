-- The group of an id, the id of its first member, and the index of its type.
use Rattle.std.proofs.Common.{◌≡◌, ◌≤◌, ◌<◌, ℕ, zero, suc, ◌+◌, ◌-◌, List, [], ◌∷◌, ◌++◌, length, get_or, take, replicate, Some, refl, ap, ◌∙◌, inl, inr, arith, Option, None}
use Rattle.std.specs.Prelude.{slice_get, ◌⊎◌}
use Rattle.std.proofs.lemmas.List.{length-append, length-replicate}
use Rattle.std.proofs.lemmas.Option.{get_or_from_slice_get}
use Rattle.wasm_spec.specs.declared.types.CoreTypeId.{CoreTypeId}
use Rattle.form_types.specs.Ids.{ids_from}
use Rattle.form_types.specs.Types.{NamedGroup, TypesData, types_by_id, group_numbers, member_ids}
use Rattle.form_types.specs.Numbered.{first_id}
use Rattle.module_types.specs.Conversion.{group_of_id, members_of, start_by, index_by_id, StandsInterned, HasIndex, no_span}
use Rattle.type_spec.specs.Interned.{GroupSpan}

in-parts : (m v : ℕ) (rest : List ℕ) (n k : ℕ) → slice_get (replicate m v ++ rest) n ≡ Some k
    → ((n < m) × (v ≡ k)) ⊎ ((m ≤ n) × (slice_get rest (n - m) ≡ Some k))
in-parts zero v rest n k e = grind arith
in-parts (suc m) v rest zero k e = inl (omega arith, cc)
in-parts (suc m) v rest (suc n) k e = grind (arith, (in-parts m v rest n k e))

-- an id is that of a member of a group, which is at a position of the groups from one on
pub record IsIn (base : ℕ) (gs : List NamedGroup) (n k : ℕ) : Type 0 where
  pub place : ℕ
  pub number : k ≡ base + place
  pub starts : first_id gs place ≤ n
  pub within : n < first_id gs place + length (get_or gs place [])

is-in : (base : ℕ) (gs : List NamedGroup) (n k : ℕ) → slice_get (group_numbers base gs) n ≡ Some k → IsIn base gs n k
is-in base [] n k e = absurd cc
is-in base (g ∷ gs) n k e =
    elim (in-parts (length g) base (group_numbers (base + 1) gs) n k e) [
      | inl p ↦ record { place = 0; number = omega (arith, p.1); starts = omega arith; within = omega (arith, p.0) }
      | inr p ↦
          let r = is-in (base + 1) gs (n - length g) k p.1 in
          let long = length-append g (types_by_id (take r.place gs)) in
          record { place = suc r.place; number = omega (arith, r.number); starts = omega (arith, r.starts, p.0, long); within = omega (arith, r.within, p.0, long) }
    ]

-- each id has the number of a group
pub numbers-long : (base : ℕ) (gs : List NamedGroup) → length (group_numbers base gs) ≡ length (types_by_id gs)
numbers-long base [] = refl
numbers-long base (g ∷ gs) =
    omega (arith, length-append (replicate (length g) base) (group_numbers (base + 1) gs), length-replicate (length g) base, length-append g (types_by_id gs), numbers-long (base + 1) gs)

module _ (t : TypesData) (n k : ℕ) (e : slice_get (group_numbers 0 t.groups) n ≡ Some k) where
  pub group-is : group_of_id t n ≡ k
  group-is = get_or_from_slice_get (group_numbers 0 t.groups) n k 0 e

  abbrev found : IsIn 0 t.groups n k
  found = is-in 0 t.groups n k e

  same : found.place ≡ k
  same = omega (arith, found.number)

  pub starts : first_id t.groups k ≤ n
  starts = coe 0 1 (j. first_id t.groups (same j) ≤ n) found.starts

  pub within : n < first_id t.groups k + length (get_or t.groups k [])
  within = coe 0 1 (j. n < first_id t.groups (same j) + length (get_or t.groups (same j) [])) found.within

  pub filled : 0 < length (get_or t.groups k [])
  filled = omega (arith, starts, within)

ids-of : (first : ℕ) (gs : List NamedGroup) (k : ℕ) → k < length gs
    → slice_get (member_ids first gs) k ≡ Some (ids_from (first + first_id gs k) (length (get_or gs k [])))
ids-of first [] k h = absurd (omega arith)
ids-of first (g ∷ gs) zero h = let same : first ≡ first + 0 = omega arith in ap (λ f. Some (ids_from f (length g))) same
ids-of first (g ∷ gs) (suc k) h = grind (arith, same, length-append, (ids-of (first + length g) gs k (omega arith)))

pub ids-are : (gs : List NamedGroup) (k : ℕ) (ids : List CoreTypeId) → k < length gs → slice_get (member_ids 0 gs) k ≡ Some ids
    → ids ≡ ids_from (first_id gs k) (length (get_or gs k []))
ids-are gs k ids h e = grind (arith, same, ids-of)

-- the ids of a group are among all
pub group-ends : (gs : List NamedGroup) (k : ℕ) → first_id gs k + length (get_or gs k []) ≤ length (types_by_id gs)
group-ends [] zero = omega arith
group-ends [] (suc k) = omega arith
group-ends (g ∷ gs) zero = omega (arith, length-append g (types_by_id gs))
group-ends (g ∷ gs) (suc k) = omega (arith, group-ends gs k, length-append g (types_by_id gs), length-append g (types_by_id (take k gs)))

-- ---- the index of the type of an id

module _ {t : TypesData} {n next : ℕ} {spans : List GroupSpan} {ids : ℕ → Option ℕ} (has : HasIndex t next spans ids n)
    {k : ℕ} (e : slice_get (group_numbers 0 t.groups) n ≡ Some k) (known : k < length t.groups)
    {all : List CoreTypeId} (are : slice_get (member_ids 0 t.groups) k ≡ Some all) where
  members : 0 < length (members_of t k)
  members = filled t n k e

  pub some : all ≡ [] → ⊥
  some none = grind (arith, members, ids-are t.groups k all known are)

  pub stands : {j : ℕ} → ids k ≡ Some j → StandsInterned t spans k j
  stands {j} held = coe 0 1 (i. StandsInterned t spans (group-is t n k e i) j) (has.stands j (ap ids (group-is t n k e) ∙ held))

  module _ {first : CoreTypeId} {rest : List CoreTypeId} (is : all ≡ first ∷ rest) where
    first-is : first.0 ≡ first_id t.groups k
    first-is = grind (arith, members, ids-are t.groups k all known are)

    pub before : first.0 ≤ n
    before = omega (arith, first-is, starts t n k e)

    index-is : (o : Option ℕ) → ids k ≡ o → index_by_id t next spans ids n ≡ start_by t next spans ids o + (n - first.0)
    index-is o held = grind (arith, group-is, first-is)

    module _ {j : ℕ} (held : ids k ≡ Some j) {s : GroupSpan} (at : slice_get spans j ≡ Some s) where
      span-is : get_or spans j no_span ≡ s
      span-is = get_or_from_slice_get spans j s no_span at

      pub held-within : s.start + (n - first.0) < s.end
      held-within = grind (arith, stands, span-is, first-is, starts, within)

      pub held-index : index_by_id t next spans ids n ≡ s.start + (n - first.0)
      held-index = index-is (Some j) held ∙ ap (λ (r : GroupSpan). r.start + (n - first.0)) span-is

    module _ (unheld : ids k ≡ None) where
      pub next-within : next + (n - first.0) < 4294967295
      next-within = grind (arith, group-is, first-is, starts, within)

      pub next-index : index_by_id t next spans ids n ≡ next + (n - first.0)
      next-index = index-is None unheld
