-- Types looked up by ids.
use Rattle.std.proofs.Common.{◌≡◌, ◌∙◌, ℕ, zero, suc, ◌+◌, ◌-◌, ◌<◌, ◌≤◌, List, [], ◌∷◌, length, get_or, replicate, Some, refl, sym, ap, arith, inl, inr, length-append}
use Rattle.std.specs.Prelude.{slice_get}
use Rattle.std.proofs.lemmas.Bool.{cases_lt}
use Rattle.std.proofs.lemmas.List.{length-replicate, get_or-replicate, get_or_append_left, get_or-append_right}
use Rattle.wasm_spec.specs.declared.types.UnpackedIndex.{UnpackedIndex}
use Rattle.wasm_spec.specs.TypeData.{SubType}
use Rattle.form_types.specs.Ids.{ids_from}
use Rattle.form_types.specs.Types.{NamedGroup, types_by_id, group_numbers, member_ids}
use Rattle.form_types.specs.Distinct.{spans}

pub length_numbers : (n : ℕ) (gs : List NamedGroup) → length (group_numbers n gs) ≡ length (types_by_id gs)
length_numbers n [] = refl
length_numbers n (g ∷ gs) = grind (arith, length-append, length-replicate, (length_numbers (n + 1) gs))

pub length_spans : (first : ℕ) (gs : List NamedGroup) → length (spans first gs) ≡ length gs
length_spans first [] = refl
length_spans first (g ∷ gs) = ap (λ n. suc n) (length_spans (first + length g) gs)

-- a type is a member of the group with a number, whose first member has an id
pub record IsMember (gs : List NamedGroup) (id number first : ℕ) : Type 0 where
  pub below : number < length gs
  pub starts : first ≤ id
  pub within : id - first < length (get_or gs number [])
  pub same : (d : SubType UnpackedIndex UnpackedIndex) → get_or (types_by_id gs) id d ≡ get_or (get_or gs number []) (id - first) d

here : (g : NamedGroup) (gs : List NamedGroup) (id : ℕ) → id < length g → IsMember (g ∷ gs) id 0 0
here g gs id lt =
    let same : id - 0 ≡ id = omega arith in
    record {
      below = omega arith;
      starts = omega arith;
      within = rw same lt;
      same = λ d. get_or_append_left g (types_by_id gs) d id lt ∙ ap (λ j. get_or g j d) (sym same);
    }

later : (g : NamedGroup) (gs : List NamedGroup) (id number first : ℕ) → length g ≤ id → IsMember gs (id - length g) number first
    → IsMember (g ∷ gs) id (suc number) (length g + first)
later g gs id number first le m =
    let at : id - (length g + first) ≡ id - length g - first = omega arith in
    record {
      below = omega (arith, m.below);
      starts = omega (arith, m.starts);
      within = rw at m.within;
      same = λ d. get_or-append_right g (types_by_id gs) (length g) id d refl le ∙ m.same d ∙ ap (λ j. get_or (get_or gs number []) j d) (sym at);
    }

-- the number of a type's group, and where its span starts
abbrev Found : ℕ → ℕ → List NamedGroup → ℕ → ℕ → Type 0
Found n first gs id k =
    (number : ℕ) × (k ≡ n + number) × (start : ℕ) × IsMember gs id number start
    × ((span : ℕ × ℕ) → span ≡ get_or (spans first gs) number span → span.0 ≡ first + start)

found-here : (n first : ℕ) (g : NamedGroup) (gs : List NamedGroup) (id : ℕ) → id < length g → (k : ℕ)
    → k ≡ get_or (group_numbers n (g ∷ gs)) id k → Found n first (g ∷ gs) id k
found-here n first g gs id lt k is =
    let in_front : id < length (replicate (length g) n) = omega (arith, length-replicate (length g) n) in
    let number : k ≡ n = is ∙ get_or_append_left (replicate (length g) n) (group_numbers (n + 1) gs) k id in_front ∙ get_or-replicate (length g) id n k lt in
    (0, omega arith, 0, here g gs id lt, λ span at. ap (λ s. s.0) at ∙ omega arith)

found-later : (n first : ℕ) (g : NamedGroup) (gs : List NamedGroup) (id : ℕ) → length g ≤ id → (k : ℕ)
    → Found (n + 1) (first + length g) gs (id - length g) k → Found n first (g ∷ gs) id k
found-later n first g gs id le k f =
    (suc f.0, omega (arith, f.1), length g + f.2, later g gs id f.0 f.2 le f.3, λ span at. f.4 span at ∙ omega arith)

member-found : (n first : ℕ) (gs : List NamedGroup) (id : ℕ) → id < length (types_by_id gs) → (k : ℕ) → k ≡ get_or (group_numbers n gs) id k
    → Found n first gs id k
member-found n first [] id lt k is = absurd (omega arith)
member-found n first (g ∷ gs) id lt k is =
    elim (cases_lt id (length g)) [
      | inl front ↦ found-here n first g gs id front k is
      | inr ge ↦
          found-later n first g gs id ge k
          (member-found (n + 1) (first + length g) gs (id - length g) (omega (arith, lt, ge, length-append g (types_by_id gs))) k
          (is ∙ get_or-append_right (replicate (length g) n) (group_numbers (n + 1) gs) (length g) id k (length-replicate (length g) n) ge))
    ]

-- a type, by what is kept of its group's number
pub member-of : (gs : List NamedGroup) (numbers_kept : List ℕ) → numbers_kept ≡ group_numbers 0 gs → (id : ℕ) → id < length (types_by_id gs)
    → (k : ℕ) → k ≡ get_or numbers_kept id k → (start : ℕ) × IsMember gs id k start
member-of gs numbers_kept kept id lt k is =
    let f = member-found 0 0 gs id lt k (is ∙ ap (λ l. get_or l id k) kept) in
    let number : f.0 ≡ k = omega (arith, f.1) in
    (f.2, rw number at f.3)

-- and of its group's span
pub member-in : (gs : List NamedGroup) (numbers_kept : List ℕ) (spans_kept : List (ℕ × ℕ)) → numbers_kept ≡ group_numbers 0 gs
    → spans_kept ≡ spans 0 gs → (id : ℕ) → id < length (types_by_id gs) → (k : ℕ) → k ≡ get_or numbers_kept id k
    → (span : ℕ × ℕ) → span ≡ get_or spans_kept k span → IsMember gs id k span.0
member-in gs numbers_kept spans_kept kept kept' id lt k is span at =
    let f = member-found 0 0 gs id lt k (is ∙ ap (λ l. get_or l id k) kept) in
    let number : f.0 ≡ k = omega (arith, f.1) in
    let start : f.2 ≡ span.0 = omega (arith, f.4 span (at ∙ ap (λ l. get_or l k span) kept' ∙ ap (λ j. get_or (spans 0 gs) j span) (sym number))) in
    rw (number, start) at f.3

-- the ids of the members of a group
pub members-found : (first : ℕ) (gs : List NamedGroup) (k : ℕ) → k < length gs → (span : ℕ × ℕ) → span ≡ get_or (spans first gs) k span
    → (span.0 ≤ span.1) × (slice_get (member_ids first gs) k ≡ Some (ids_from span.0 (span.1 - span.0)))
members-found first [] k lt span is = absurd (omega arith)
members-found first (g ∷ gs) zero lt span is =
    let whole : span ≡ (first, first + length g) = is in
    let long : first + length g - first ≡ length g = omega arith in
    (rw whole (omega arith), rw (whole, long) refl)
members-found first (g ∷ gs) (suc k) lt span is = members-found (first + length g) gs k (omega arith) span is
