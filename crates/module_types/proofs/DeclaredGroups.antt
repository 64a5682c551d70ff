-- A builder that interned the declared groups of a module in turn holds what the definition takes.
use Rattle.std.proofs.Common.{◌≡◌, ◌∙◌, ◌↔◌, ◌⊎◌, inl, inr, ℕ, zero, suc, ◌+◌, ◌-◌, ◌<◌, ◌≤◌, true, false, Some, None, List, [], ◌∷◌, ◌++◌, length, get_or, take, refl, sym, ap, subst, arith, length-append}
use Rattle.std.specs.Prelude.{slice_get, slice_index, IsSome}
use Rattle.std.specs.List.{All, fold, flat_map}
use Rattle.std.proofs.lemmas.Bool.{cases_lt}
use Rattle.std.proofs.lemmas.List.Sums.{fold_more}
use Rattle.std.proofs.lemmas.List.Elements.{All-map, All-weaker}
use Rattle.std.proofs.lemmas.List.{length-map, get_or-map, get_or_append_left, get_or-append-add, get_or-replicate, length-replicate}
use Rattle.std.proofs.lemmas.List.Concat.{get_or-flat_map, flat_map-append}
use Rattle.std.proofs.lemmas.Option.{slice_get-get_or}
use Rattle.wasm_spec.specs.declared.types.UnpackedIndex.{UnpackedIndex}
use Rattle.wasm_spec.specs.TypeData.{SubType, Group, map_sub_type, map_group, group_edges}
use Rattle.wasm_spec.specs.Module as plain
use Rattle.type_spec.specs.TypeShapes.{group_shape}
use Rattle.type_spec.specs.Names.{NameKind, plainly}
use Rattle.type_spec.specs.Equality.{Home, home, SameType}
use Rattle.type_spec.specs.Interned.{Interned, GroupSpan, Built, Taking, with_group, opened, kind_of_type, kind_at, interned_group, take_group, none_taken, taken}
use Rattle.type_spec.specs.Taken.{NameEarlier}
use Rattle.type_spec.proofs.Equivalence.{home-start}
use Rattle.type_spec.proofs.Homes.{size, size-cons, home-within, home-again, home-type}
use Rattle.type_spec.proofs.ByNames.{names-same, zip-known-itself, some_type, joined-kind}
use Rattle.form_types.specs.Types.{NamedGroup, TypesData, types_by_id, group_numbers}
use Rattle.form_types.specs.Placed.{placed_groups, id_at, named}
use Rattle.form_types.specs.Numbered.{first_id, AreNumbered}
use Rattle.form_types.proofs.Ruled.{size-places}
use Rattle.module_types.specs.Builder.{Builder, new_builder, interns_by}
use Rattle.module_types.specs.Conversion.{kind_in, group_of_id, members_of, no_span, start_by, index_by_id, name_by_id, id_number, interned_members, interned_index, HoldsGroups}
use Rattle.module_types.specs.InTurn.{interns_type, interns_declared, HasGroups, CanIntern}
use Rattle.module_types.proofs.GroupMembers.{Extends, extends-group, group-within, span-new, span-old}
use Rattle.module_types.proofs.Holding.{noted-here, noted-elsewhere, holds-kept}
use Rattle.module_types.proofs.Places.{group-ends}
use Rattle.module_types.proofs.GroupKinds.{kind-mapped}
use Rattle.module_types.proofs.Convertible.{members-kinds}
use Rattle.module_types.proofs.Taking.{near-from, first-place, equal-same, equal-home, is_met, IsMet, met-same, met-before, met-now, met-either, done_at, state, step-by, reaches, reads, number_in, number-here, near-here, form-here, whole}

-- ---- ids, and numbers of groups

pub number-of : (gs : List NamedGroup) (base k p : ℕ) → k < length gs → p < length (get_or gs k [])
    → get_or (group_numbers base gs) (first_id gs k + p) 0 ≡ base + k
number-of [] base k p lt lt' = absurd (omega arith)
number-of (g ∷ gs) base zero p lt lt' = grind (arith, length-replicate, get_or_append_left, get_or-replicate)
number-of (g ∷ gs) base (suc k) p lt lt' = grind (arith, length-replicate, length-append, get_or-append-add, (number-of gs (base + 1) k p (omega arith) lt'))

module _ (m : plain.Module) (t : TypesData) (are : AreNumbered m t) (near : NameEarlier 0 (placed_groups m)) where
  abbrev pub all : List (Group ℕ ℕ)
  all = placed_groups m

  abbrev pub number : ℕ → ℕ
  number = number_in all

  abbrev pub id : ℕ → ℕ
  id i = slice_index t.declared i

  -- the number of the group of a declared type
  abbrev pub group : ℕ → ℕ
  group i = group_of_id t (id i)

  pub counted : size all ≡ length (plain.types m)
  counted = size-places (plain.groups m)

  pub inside : (i : ℕ) → i < size all → i < length (plain.types m)
  inside i lt = omega (arith, lt, counted)

  -- the position of the id of a declared type
  pub record IdAt (i : ℕ) : Type 0 where
    pub known : group i < length t.groups
    pub members : members_of t (group i) ≡ named t.declared (home all i).members
    pub at : id i ≡ first_id t.groups (group i) + (i - (home all i).start)
    pub within : i - (home all i).start < length (members_of t (group i))

  pub id-at : (i : ℕ) → i < size all → IdAt i
  id-at i lt =
      let s = are.held i (inside i lt) in
      let w = home-within all i lt in
      let long : length (get_or t.groups s.number []) ≡ length (home all i).members = ap length s.group ∙ length-map (home all i).members _ in
      let place : i - (home all i).start < length (get_or t.groups s.number []) = omega (arith, long, w.from, w.to) in
      let at : id i ≡ first_id t.groups s.number + (i - (home all i).start) = s.member in
      let is : group i ≡ s.number =
      ap (λ n. get_or (group_numbers 0 t.groups) n 0) at ∙ number-of t.groups 0 s.number (i - (home all i).start) s.below place ∙ omega arith in
      record {
        known = omega (arith, is, s.below);
        members = ap (λ k. get_or t.groups k []) is ∙ s.group;
        at = at ∙ ap (λ k. first_id t.groups k + (i - (home all i).start)) (sym is);
        within = omega (arith, place, ap (λ k. length (get_or t.groups k [])) is);
      }

  -- the members of a group have ids of one group
  pub first-group : (i : ℕ) → i < size all → group i ≡ group (home all i).start
  first-group i lt =
      let w = home-within all i lt in
      let start = (home all i).start in
      let lt' : start < size all = omega (arith, w.from, lt) in
      let again : home all start ≡ home all i = home-again all i start lt (record { from = omega arith; to = omega (arith, w.from, w.to) }) in
      let x = id-at start lt' in
      let long : length (members_of t (group start)) ≡ length (home all i).members = ap length x.members ∙ length-map (home all start).members _
      ∙ ap (λ (h : Home). length h.members) again in
      let at : id i ≡ first_id t.groups (group start) + (i - start) = are.row i (inside i lt)
      ∙ omega (arith, x.at, ap (λ (h : Home). start - h.start) again) in
      ap (λ n. get_or (group_numbers 0 t.groups) n 0) at
      ∙ number-of t.groups 0 (group start) (i - start) x.known (omega (arith, long, w.from, w.to)) ∙ omega arith

  -- groups with ids of one group are equal
  pub group-same : (i j : ℕ) → i < size all → j < size all → i - (home all i).start ≡ j - (home all j).start → group i ≡ group j → SameType all all i j
  group-same i j lt lt' place same =
      (are.exact i j (inside i lt) (inside j lt')).0 ((id-at i lt).at ∙ (λ k. first_id t.groups (same k) + place k) ∙ sym (id-at j lt').at)

  -- the type of a declared type's id is of its kind
  pub kind-held : (i : ℕ) → i < size all → kind_in (slice_get (types_by_id t.groups) (id i)) ≡ kind_at all i
  kind-held i lt =
      let x = id-at i lt in
      let p = i - (home all i).start in
      let w = home-within all i lt in
      let h = id_at t.declared in
      let d : SubType UnpackedIndex UnpackedIndex = map_sub_type h h some_type in
      let at : id i ≡ length (types_by_id (take (group i) t.groups)) + p = x.at in
      let known : id i < length (types_by_id t.groups) = omega (arith, x.at, x.within, group-ends t.groups (group i)) in
      let member : get_or (types_by_id t.groups) (id i) d ≡ map_sub_type h h (get_or (home all i).members p some_type) =
      ap (λ n. get_or (types_by_id t.groups) n d) at
      ∙ get_or-flat_map (λ (g : NamedGroup). g) t.groups (group i) p [] d x.known x.within
      ∙ ap (λ (g : NamedGroup). get_or g p d) x.members
      ∙ get_or-map (map_sub_type h h) (home all i).members p some_type d (omega (arith, w.from, w.to)) in
      ap kind_in (slice_get-get_or (types_by_id t.groups) (id i) d known)
      ∙ ap (λ (s : SubType UnpackedIndex UnpackedIndex). kind_of_type s.composite.inner) member
      ∙ kind-mapped h h (get_or (home all i).members p some_type).composite.inner
      ∙ ap (λ (s : SubType ℕ ℕ). kind_of_type s.composite.inner) (home-type all i some_type lt)
      ∙ sym (joined-kind all i lt)

  -- ---- what a builder holds

  -- a declared type is held at its index
  pub record HoldsAt (b : Builder) (i : ℕ) : Type 0 where
    pub at : ℕ
    pub id_is : b.ids (group i) ≡ Some at
    pub within : at < length b.built.groups
    pub index : (get_or b.built.groups at no_span).start + (i - (home all i).start) ≡ number i

  pub record Has (b : Builder) (done : List Home) (s : Taking) : Type 0 where
    pub built : b.built ≡ s.built
    pub held : (i : ℕ) → i < size all → IsMet all done i → HoldsAt b i
    pub fresh : (k : ℕ) → ((i : ℕ) → i < size all → IsMet all done i → group i ≡ k → ⊥) → b.ids k ≡ None

  pub index-held : (b : Builder) (i : ℕ) → i < size all → HoldsAt b i → interned_index t b (id i) ≡ number i
  index-held b i lt x = grind (arith, id-at)

  -- ---- one declared type more

  module _ (b : Builder) (n : ℕ) (lt : n < size all) (has : Has b (done_at all n) (state all n)) where
    abbrev d : List Home
    d = done_at all n

    abbrev s : Taking
    s = state all n

    abbrev here : Home
    here = home all n

    before : (i : ℕ) → i < here.start → (i < size all) × IsMet all d i
    before i low =
        let lt' : i < size all = omega (arith, low, home-start all n, lt) in
        (lt', (reaches all n (omega (arith, lt))).before i lt' (omega (arith, low, home-start all i, home-start all n)))

    member-group : (i : ℕ) → here.start ≤ i → i < here.start + length here.members → (home all i ≡ here) × (group i ≡ group n)
    member-group i low high = grind (arith, home-within, home-again, first-group)

    -- its group can be interned
    pub comes-next : HoldsGroups t b → CanIntern t b (group n)
    comes-next holds =
        let x = id-at n lt in
        let Is : UnpackedIndex → Type 0 = λ i. (group_of_id t (id_number i) ≡ group n) ⊎ IsSome (b.ids (group_of_id t (id_number i))) in
        record {
          known = x.known;
          filled = omega (arith, x.within);
          holds = holds;
          named = subst (λ (y : NamedGroup). All Is (group_edges (λ i. i) y)) (sym x.members)
              (subst (All Is) (sym ((plainly group_shape).edges_map (id_at t.declared) here.members))
              (All-map Is (id_at t.declared) (group_edges (λ r. r) here.members)
              (All-weaker (λ r. r < here.start + length here.members) (λ r. Is (id_at t.declared r))
              (λ r below.
              elim (cases_lt r here.start) [
                | inl low ↦ let x = before r low in inr (subst IsSome (sym (has.held r x.0 x.1).id_is) refl)
                | inr high ↦ inl (member-group r high below).1
              ]) (group_edges (λ r. r) here.members) (near-from all 0 n (omega arith) (omega (arith, lt)) near))));
        }

    -- the group of another is appended
    module _ (unmet : is_met all d here ≡ false) where
      other : (i : ℕ) → i < size all → IsMet all d i → group i ≡ group n → ⊥
      other i lt' met same = grind (arith, group-same, home-start, first-place, first-group, met-same, met)

      unheld : b.ids (group n) ≡ None
      unheld = has.fresh (group n) other

      abbrev next : List Interned
      next = interned_members t b (group n)

      long-types : length b.built.types ≡ length s.built.types
      long-types = ap (λ (c : Built). length c.types) has.built

      index-next : (r : ℕ) → r < here.start + length here.members → interned_index t b (id r) ≡ number r
      index-next r below =
          elim (cases_lt r here.start) [
            | inl low ↦ let x = before r low in index-held b r x.0 (has.held r x.0 x.1)
            | inr high ↦
                let lt' : r < size all = omega (arith, below, (home-within all n lt).high) in
                let x = member-group r high below in
                let place : id r - first_id t.groups (group r) ≡ r - (home all r).start = omega (arith, (id-at r lt').at) in
                ap (λ o. start_by t (length b.built.types) b.built.groups b.ids o + (id r - first_id t.groups (group r))) (ap b.ids x.1 ∙ unheld)
                ∙ (λ i. long-types i + place i) ∙ sym (number-here all n lt unmet r lt' (equal-home all here r x.0))
          ]

      next-is : next ≡ interned_group all (take_group all s here).number here.members
      next-is =
          let look = λ (i : UnpackedIndex). name_by_id t (length b.built.types) b.built.groups b.ids (id_number i) in
          let index = λ (i : UnpackedIndex). index_by_id t (length b.built.types) b.built.groups b.ids (id_number i) in
          let kind : ℕ → NameKind = λ r. kind_in (slice_get (types_by_id t.groups) (id r)) in
          ap (map_group look index) (id-at n lt).members
          ∙ group_shape.map_twice (id_at t.declared) look (id_at t.declared) index here.members
          ∙ names-same kind (kind_at all) (λ r. interned_index t b (id r)) number here.members here.members (record {
            frames = refl;
            edges = zip-known-itself (λ r. r < here.start + length here.members) _
                (λ r below. λ i. record { kind = kind-held r (omega (arith, below, (home-within all n lt).high)) i; index = index-next r below i })
                (group_edges (λ r. r) here.members) (near-here all n lt unmet near);
          })
          ∙ sym (form-here all n lt unmet near)

      abbrev at : ℕ
      at = length b.built.groups

      abbrev later : Builder
      later = interns_by b (group n) next None

      after : Extends (opened b.built next) later.built
      after = extends-group b.built next

      has-new : Has later (d ++ here ∷ []) (take_group all s here)
      has-new = record {
        built = λ i. with_group (has.built i) (next-is i);
        held = λ i lt' met.
            elim (met-either all d here i met) [
              | inl old ↦
                  let x = has.held i lt' old in
                  record {
                    at = x.at;
                    id_is = noted-elsewhere b.ids (group n) at (group i) (λ e. other i lt' old (sym e)) ∙ x.id_is;
                    within = omega (arith, x.within, group-within b.built next later.built after);
                    index = ap (λ (r : GroupSpan). r.start + (i - (home all i).start)) (span-old b.built next later.built after x.at x.within) ∙ x.index;
                  }
              | inr e ↦
                  let same = ap (group_of_id t) ((are.exact here.start (home all i).start (omega (arith, home-start all n, lt, counted)) (omega (arith, home-start all i, lt', counted))).1
                  (equal-same all here i e)) in
                  record {
                    at = at;
                    id_is = ap later.ids (first-group i lt' ∙ sym same ∙ sym (first-group n lt)) ∙ noted-here b.ids (group n) at;
                    within = group-within b.built next later.built after;
                    index = ap (λ (r : GroupSpan). r.start + (i - (home all i).start)) (span-new b.built next later.built after)
                        ∙ ap (λ k. k + (i - (home all i).start)) long-types ∙ sym (number-here all n lt unmet i lt' e);
                  }
            ];
        fresh = λ k apart.
            noted-elsewhere b.ids (group n) at k (λ e. apart n lt (met-now all d here n (equal-home all here n refl)) e)
            ∙ has.fresh k (λ i lt' met. apart i lt' (met-before all d here i met));
      }

    pub has-next : Has (interns_type t b (id n)) (done_at all (n + 1)) (state all (n + 1))
    has-next =
        step-by all n (Has (interns_type t b (id n)))
        (λ met. subst (λ c. Has c d s) (sym (ap (interns_by b (group n) (interned_members t b (group n))) (has.held n lt met).id_is)) has)
        (λ unmet. subst (λ c. Has c (d ++ here ∷ []) (take_group all s here))
        (sym (ap (interns_by b (group n) (interned_members t b (group n))) (unheld unmet))) (has-new unmet))

  -- ---- all of them

  pub has-none : (validator : ℕ) → Has (new_builder validator) [] none_taken
  has-none validator = record { built = refl; held = λ i lt met. absurd (let no : false ≡ true = met in cc); fresh = λ k none. refl }

  module _ (b : Builder) (n : ℕ) (le : n ≤ size all) (has : Has b (done_at all n) (state all n)) (i : ℕ) (lt : i < n) where
    within : i < size all
    within = omega (arith, lt, le)

    met : IsMet all (done_at all n) i
    met = (reaches all n le).before i within (omega (arith, lt, home-start all i))

    pub has-index : interned_index t b (id i) ≡ number i
    has-index = index-held b i within (has.held i within met)

    pub has-below : number i < length b.built.types
    has-below =
        omega (arith, reads all n i le within met, (reaches all n le).below i within met, ap (λ (c : Built). length c.types) has.built)

  module _ (validator : ℕ) where
    -- the first declared types were interned
    abbrev after_first : ℕ → Builder
    after_first n = fold (interns_type t) (new_builder validator) (take n t.declared)

    -- what they are and what ids name
    reached : (n : ℕ) → n ≤ size all → Has (after_first n) (done_at all n) (state all n) × HoldsGroups t (after_first n)
    reached zero le = (has-none validator, λ k j e. absurd (let no : None ≡ Some j = e in cc))
    reached (suc n) le =
        let p = reached n (omega (arith, le)) in
        let one : n + 1 ≡ suc n = omega arith in
        let step = fold_more (interns_type t) (new_builder validator) t.declared n 0 (omega (arith, le, are.each, counted)) in
        subst (λ k. Has (after_first k) (done_at all k) (state all k) × HoldsGroups t (after_first k)) one
        (subst (λ b. Has b (done_at all (n + 1)) (state all (n + 1)) × HoldsGroups t b) (sym step) (
          has-next (after_first n) n (omega (arith, le)) p.0,
          holds-kept t (after_first n) (group n) (interned_members t (after_first n) (group n)) p.1
              (members-kinds t (after_first n) (group n)),
        ))

    pub can-intern : (gs rest : List (Group ℕ ℕ)) (g : Group ℕ ℕ) → all ≡ gs ++ g ∷ rest → 0 < length g
        → CanIntern t (interns_declared t (new_builder validator) 0 gs) (group (size gs))
    can-intern gs rest g is some =
        let parts = ap length (flat_map-append (λ (h : Group ℕ ℕ). h) gs (g ∷ rest)) in
        let sum = length-append (flat_map (λ (h : Group ℕ ℕ). h) gs) (flat_map (λ (h : Group ℕ ℕ). h) (g ∷ rest)) in
        let lt : size gs < size all = omega (arith, ap size is, parts, sum, size-cons g rest) in
        let p = reached (size gs) (omega (arith, lt)) in
        comes-next (after_first (size gs)) (size gs) lt p.0 p.1

    pub tied : HasGroups t (interns_declared t (new_builder validator) 0 all) (taken all)
    tied =
        let has = (reached (size all) (omega arith)).0 in
        record {
          built = has.built;
          declared = λ i lt.
              has-index (after_first (size all)) (size all) (omega arith) has i (omega (arith, lt, (whole all near).counted));
        }

    -- two declared types have one interned index exactly where they are equal
    pub told : (i j : ℕ) → i < length t.declared → j < length t.declared
        → (interned_index t (interns_declared t (new_builder validator) 0 all) (id i) ≡ interned_index t (interns_declared t
        (new_builder validator) 0 all) (id j)) ↔ SameType all all i j
    told i j lt lt' =
        let w = whole all near in
        let x = tied.declared i (omega (arith, lt, are.each, counted, w.counted)) in
        let y = tied.declared j (omega (arith, lt', are.each, counted, w.counted)) in
        let e = w.exact i j (omega (arith, lt, are.each, counted)) (omega (arith, lt', are.each, counted)) in
        ((λ same. e.0 (sym x ∙ same ∙ y)), (λ same. x ∙ e.1 same ∙ sym y))
