-- What taking the groups of a list makes: the groups that are taken get the next indices, and each
-- type has that of the first equal one.
use Rattle.std.proofs.Common.{◌≡◌, ◌∙◌, ◌↔◌, ◌⊎◌, inl, inr, ℕ, zero, suc, ◌+◌, ◌-◌, ◌<◌, ◌≤◌, Bool, true, false, ◌||◌, List, [], ◌∷◌, ◌++◌, length, get_or, map, refl, sym, ap, subst, arith}
use Rattle.std.specs.Bool.{Decides}
use Rattle.std.specs.List.{All, fold, list_any, range_with_len}
use Rattle.std.proofs.lemmas.Bool.{cases_lt, cases_eq, cases_Bool, or_cases, or_left, or_right}
use Rattle.std.proofs.lemmas.Bool.Decides.{same_from_decides}
use Rattle.std.proofs.lemmas.List.{append_assoc, append-nil, length-map}
use Rattle.std.proofs.lemmas.List.Folds.{list_any-append}
use Rattle.std.proofs.lemmas.List.FromFn.{length-map-range_with_len, get_or-map-range_with_len, map-range_with_len_more}
use Rattle.std.proofs.lemmas.List.Sums.{fold_push}
use Rattle.wasm_spec.specs.TypeData.{Group, group_edges}
use Rattle.type_spec.specs.Equality.{Home, home, home_from, SameType}
use Rattle.entity_map.specs.Firsts.{with_first, firsts_by}
use Rattle.type_spec.specs.TakenGroups.{equal_groups, taken_groups}
use Rattle.type_spec.specs.Interned.{Interned, Built, Taking, with_group, kind_at, interned_group, take_group, none_taken, taken, empty}
use Rattle.type_spec.specs.Taken.{NameEarlier}
use Rattle.type_spec.specs.Decided.{decide_type}
use Rattle.type_spec.proofs.Equivalence.{home-start, type-itself, type-turned, type-chained, type-groups, type-beside, groups-long}
use Rattle.type_spec.proofs.Homes.{size, size-cons, in_front, behind, home-within, home-again}
use Rattle.type_spec.proofs.ByNames.{name_by, by_names, names-same, zip-known-itself}
use Rattle.module_types.specs.Runs.{with_groups}
use Rattle.module_types.proofs.GroupMembers.{group-long}

-- a group's references name types of the group or before it
pub near-from : (gs : List (Group ℕ ℕ)) (start i : ℕ) → start ≤ i → i < start + size gs → NameEarlier start gs
    → All (λ r. r < (home_from start gs i).start + length (home_from start gs i).members) (group_edges (λ r. r) (home_from start gs i).members)
near-from [] start i low lt near = absurd (omega (arith, low, lt))
near-from (g ∷ gs) start i low lt near =
    elim (cases_lt i (start + length g)) [
      | inl here ↦ rw (in_front start g gs i here) near.0
      | inr later ↦ rw (behind start g gs i later) (near-from gs (start + length g) i later (omega (arith, lt, size-cons g gs)) near.1)
    ]

module _ (all : List (Group ℕ ℕ)) where
  -- ---- types, and their groups

  pub first-home : (i : ℕ) → i < size all → home all (home all i).start ≡ home all i
  first-home i lt = grind (arith, home-within, home-again)

  pub first-place : (i : ℕ) → i < size all → (home all i).start - (home all (home all i).start).start ≡ 0
  first-place i lt = ap (λ (h : Home). (home all i).start - h.start) (first-home i lt) ∙ omega arith

  -- types are equal where the first types of their groups are, and they are at one position
  pub starts-same : (i j : ℕ) → i < size all → j < size all → SameType all all i j → SameType all all (home all i).start (home all j).start
  starts-same i j lt lt' same =
      type-beside all all i j (home all i).start (home all j).start same (first-home i lt) (first-home j lt') (first-place i lt ∙ sym (first-place j lt'))

  pub same-by-starts : (i j : ℕ) → i < size all → j < size all → SameType all all (home all i).start (home all j).start
      → i - (home all i).start ≡ j - (home all j).start → SameType all all i j
  same-by-starts i j lt lt' starts at = grind (arith, type-beside, first-home)

  -- the group of a type is equal to a group
  abbrev pub IsEqual : Home → ℕ → Type 0
  IsEqual h i = equal_groups all h (home all i) ≡ true

  equal-decided : (g h : Home) → Decides (equal_groups all g h) (SameType all all g.start h.start)
  equal-decided g h = (decide_type all all g.start h.start).1

  pub equal-same : (h : Home) (i : ℕ) → IsEqual h i → SameType all all h.start (home all i).start
  equal-same h i e = (equal-decided h (home all i)).0 e

  pub equal-home : (h : Home) (i : ℕ) → home all i ≡ h → IsEqual h i
  equal-home h i at = grind (arith, equal-decided h (home all i), type-itself all h.start)

  equal-alike : (h g k : Home) → SameType all all g.start k.start → equal_groups all h g ≡ equal_groups all h k
  equal-alike h g k same =
      grind (arith, equal-decided h g, type-turned all all g.start k.start same, equal-decided h k, same_from_decides, type-chained)

  -- the type is equal to a member of the group
  pub record Copy (h : Home) (i : ℕ) : Type 0 where
    pub lt : i - (home all i).start < length h.members
    pub same : SameType all all i (h.start + (i - (home all i).start))

  pub copy : (h : Home) (i : ℕ) → h.start < size all → home all h.start ≡ h → i < size all → IsEqual h i → Copy h i
  copy h i inside at lt e = record { lt = long; same = same } where
    long : i - (home all i).start < length h.members
    long = grind (arith, home-within, equal-same, first-home, groups-long, type-groups)

    same : SameType all all i (h.start + (i - (home all i).start))
    same =
        let r = h.start + (i - (home all i).start) in
        let from = ap (λ (g : Home). g.start) at in
        let to = ap (λ (g : Home). length g.members) at in
        let again : home all r ≡ h = home-again all h.start r inside (record { from = omega (arith, from); to = omega (arith, from, to, long) }) ∙ at in
        let place : r - (home all r).start ≡ i - (home all i).start = ap (λ (g : Home). r - g.start) again ∙ omega arith in
        same-by-starts i r lt (omega (arith, from, to, long, (home-within all h.start inside).high))
        (subst (λ (g : Home). SameType all all (home all i).start g.start) (sym again) (type-turned all all h.start (home all i).start (equal-same h i e)))
        (sym place)

  -- ---- groups that were taken

  -- a group that is equal to another was taken
  abbrev pub is_met : List Home → Home → Bool
  is_met done h = list_any (λ g. equal_groups all g h) done

  abbrev pub IsMet : List Home → ℕ → Type 0
  IsMet done i = is_met done (home all i) ≡ true

  pub met-same : (done : List Home) (g h : Home) → SameType all all g.start h.start → is_met done g ≡ is_met done h
  met-same done g h same = ap (λ (p : Home → Bool). list_any p done) (λ t k. equal-alike k g h same t)

  -- where one group more was taken, its own types are in the taken groups too
  module _ (done : List Home) (h : Home) (i : ℕ) where
    with_one : is_met (done ++ h ∷ []) (home all i) ≡ (is_met done (home all i) || (equal_groups all h (home all i) || false))
    with_one = list_any-append (λ g. equal_groups all g (home all i)) done (h ∷ [])

    pub met-before : IsMet done i → IsMet (done ++ h ∷ []) i
    met-before met = with_one ∙ or_left (is_met done (home all i)) (equal_groups all h (home all i) || false) met

    pub met-now : IsEqual h i → IsMet (done ++ h ∷ []) i
    met-now e = grind (arith, with_one, or_right, or_left)

    pub met-either : IsMet (done ++ h ∷ []) i → IsMet done i ⊎ IsEqual h i
    met-either met = grind (arith, or_cases, with_one)

  -- each type before a group that is taken is in those before it, and in the end each type is
  abbrev pub Covers : List Home → List Home → Type 0
  Covers done [] = (i : ℕ) → i < size all → IsMet done i
  Covers done (h ∷ hs) = ((i : ℕ) → i < h.start → IsMet done i) × Covers (done ++ h ∷ []) hs

  -- ---- one type after another

  -- the groups that are taken of the types before a position, and what they become
  abbrev pub done_at : ℕ → List Home
  done_at n = firsts_by (equal_groups all) (map (home all) (range_with_len 0 n))

  abbrev pub state : ℕ → Taking
  state n = fold (take_group all) none_taken (done_at n)

  -- a type that is present changes nothing, and the group of another is taken
  pub step-by : (n : ℕ) (Q : List Home → Taking → Type 0) → (IsMet (done_at n) n → Q (done_at n) (state n))
      → (is_met (done_at n) (home all n) ≡ false → Q (done_at n ++ home all n ∷ []) (take_group all (state n) (home all n)))
      → Q (done_at (n + 1)) (state (n + 1))
  step-by n Q old new = grind (arith, map-range_with_len_more (home all) 0 n n (omega arith), fold_push (with_first (equal_groups all)), fold_push (take_group all) none_taken (done_at n) (home all n))

  pub through-places : (Q : ℕ → List Home → Taking → Type 0) → Q 0 [] none_taken
      → ((n : ℕ) → n < size all → Q n (done_at n) (state n) → IsMet (done_at n) n → Q (n + 1) (done_at n) (state n))
      → ((n : ℕ) → n < size all → Q n (done_at n) (state n) → is_met (done_at n) (home all n) ≡ false
      → Q (n + 1) (done_at n ++ home all n ∷ []) (take_group all (state n) (home all n)))
      → (n : ℕ) → n ≤ size all → Q n (done_at n) (state n)
  through-places Q none old new zero le = none
  through-places Q none old new (suc n) le =
      let p = through-places Q none old new n (omega (arith, le)) in
      let lt : n < size all = omega (arith, le) in
      let at : n + 1 ≡ suc n = omega arith in
      subst (λ k. Q k (done_at k) (state k)) at (step-by n (Q (n + 1)) (old n lt p) (new n lt p))

  -- ---- what holds once the types before a position were taken

  pub record Reaches (n : ℕ) (done : List Home) (t : Taking) : Type 0 where
    -- each type is present whose group starts before the position
    pub before : (i : ℕ) → i < size all → (home all i).start < n → IsMet done i
    pub below : (i : ℕ) → i < size all → IsMet done i → t.number i < length t.built.types
    pub same : (i j : ℕ) → i < size all → j < size all → SameType all all i j → t.number i ≡ t.number j
    pub told : (i j : ℕ) → i < size all → j < size all → IsMet done i → IsMet done j → t.number i ≡ t.number j → SameType all all i j

  before-next : (n i : ℕ) → i < size all → (home all i).start < n + 1 → ((home all i).start < n) ⊎ (home all i ≡ home all n)
  before-next n i lt start = grind (arith, cases_eq (home all i).start n, first-home i lt)

  -- the group of a type that none is equal to is taken
  module _ (done : List Home) (t : Taking) (h : Home) (unmet : is_met done h ≡ false) where
    abbrev pub after : Taking
    after = take_group all t h

    pub number-old : (i : ℕ) → IsMet done i → after.number i ≡ t.number i
    number-old i met = grind (arith, cases_Bool, met-same, equal-same)

    pub number-new : (i : ℕ) → IsEqual h i → after.number i ≡ length t.built.types + (i - (home all i).start)
    number-new i e = grind arith

    module _ (n : ℕ) (inside : n < size all) (at : home all n ≡ h) (r : Reaches n done t) where
      own : home all h.start ≡ h
      own = ap (λ (g : Home). home all g.start) (sym at) ∙ first-home n inside ∙ at

      long : length t.built.types + length h.members ≤ length after.built.types
      long = grind (arith, length-map, group-long)

      reaches-new : Reaches (n + 1) (done ++ h ∷ []) after
      reaches-new = record {
        before = grind (arith, before-next, met-before, r, met-now, equal-home);
        below = λ i lt met.
            elim (met-either done h i met) [
              | inl x ↦ omega (arith, number-old i x, r.below i lt x, long)
              | inr e ↦ omega (arith, number-new i e, (copy h i (omega (arith, inside, home-start all n, ap (λ (g : Home). g.start) at)) own lt e).lt, long)
            ];
        same = grind (arith, equal-alike, starts-same, r);
        told = λ i j lt lt' met met' same.
            elim (met-either done h i met) [
              | inl x ↦ elim (met-either done h j met') [
                | inl y ↦ r.told i j lt lt' x y (sym (number-old i x) ∙ same ∙ number-old j y)
                | inr f ↦ absurd (omega (arith, same, number-old i x, r.below i lt x, number-new j f))
              ]
              | inr e ↦ elim (met-either done h j met') [
                | inl y ↦ absurd (omega (arith, same, number-old j y, r.below j lt' y, number-new i e))
                | inr f ↦ same-by-starts i j lt lt'
                    (type-chained all all all (home all i).start h.start (home all j).start (type-turned all all h.start (home all i).start (equal-same h i e))
                    (equal-same h j f)) (omega (arith, same, number-new i e, number-new j f))
              ]
            ];
      }

  pub reaches : (n : ℕ) → n ≤ size all → Reaches n (done_at n) (state n)
  reaches =
      through-places Reaches (record {
        before = λ i lt start. absurd (omega (arith, start));
        below = λ i lt met. absurd (let no : false ≡ true = met in cc);
        same = λ i j lt lt' same. refl;
        told = λ i j lt lt' met. absurd (let no : false ≡ true = met in cc);
      })
      (λ n inside r met. record {
        before = grind (arith, before-next, r);
        below = r.below;
        same = r.same;
        told = r.told;
      })
      (λ n inside r unmet. reaches-new (done_at n) (state n) (home all n) unmet n inside refl r)

  -- a type that is present stays so, at its index
  kept : (k n i : ℕ) → IsMet (done_at n) i → IsMet (done_at (n + k)) i × ((state (n + k)).number i ≡ (state n).number i)
  kept zero n i met = grind arith
  kept (suc k) n i met =
      let p = kept k n i met in
      let m = n + k in
      let at : m + 1 ≡ n + suc k = omega arith in
      subst (λ l. IsMet (done_at l) i × ((state l).number i ≡ (state n).number i)) at
      (step-by m (λ d t. IsMet d i × (t.number i ≡ (state n).number i)) (λ old. p)
      (λ unmet. (met-before (done_at m) (home all m) i p.0, number-old (done_at m) (state m) (home all m) unmet i p.0 ∙ p.1)))

  -- the interned index of the type at a position
  abbrev pub number_in : ℕ → ℕ
  number_in i = get_or (taken all).declared i 0

  pub reads : (n i : ℕ) → n ≤ size all → i < size all → IsMet (done_at n) i → number_in i ≡ (state n).number i
  reads n i le lt met = grind (arith, size all, get_or-map-range_with_len (state (size all)).number 0 (size all) i i 0 lt (omega arith), kept (size all - n) n i met)

  module _ (number : ℕ → ℕ) where
    -- the group as it is interned
    abbrev pub form : Home → List Interned
    form h = by_names (kind_at all) number h.members

    -- a group of the list comes next, after the types that were interned
    pub record Next (b : Built) (h : Home) : Type 0 where
      pub some : 0 < length h.members
      pub at : home all h.start ≡ h
      pub inside : h.start + length h.members ≤ size all
      pub near : All (λ r. r < h.start + length h.members) (group_edges (λ r. r) h.members)
      pub numbers : (p : ℕ) → p < length h.members → number (h.start + p) ≡ length b.types + p
      pub below : (i : ℕ) → i < h.start → number i < length b.types

    abbrev pub Stand : Built → List Home → Type 0
    Stand b [] = Unit {0}
    Stand b (h ∷ hs) = Next b h × Stand (with_group b (form h)) hs

    abbrev pub with_forms : Built → List Home → Built
    with_forms b hs = with_groups b (map form hs)

    abbrev pub IsExactBelow : ℕ → Type 0
    IsExactBelow end = (i j : ℕ) → i < end → j < end → (number i ≡ number j) ↔ SameType all all i j

    -- a type equal to a member of the group that comes next
    pub next-copy : (b : Built) (h : Home) → Next b h → (done : List Home) (i : ℕ) → i < size all → IsMet (done ++ h ∷ []) i → IsMet done i ⊎ Copy h i
    next-copy b h x done i lt met = grind (arith, met-either, copy)

    -- some groups were taken, and others follow
    pub record Follows (b : Built) (done hs : List Home) : Type 0 where
      pub stand : Stand b hs
      pub covers : Covers done hs
      pub built : (taken all).built ≡ with_forms b hs

  -- ---- a group that is taken

  module _ (n : ℕ) (inside : n < size all) (unmet : is_met (done_at n) (home all n) ≡ false) where
    abbrev d : List Home
    d = done_at n

    abbrev t : Taking
    t = state n

    abbrev here : Home
    here = home all n

    abbrev later : Taking
    later = take_group all t here

    r : Reaches n d t
    r = reaches n (omega (arith, inside))

    -- it starts at the position
    pub starts-here : here.start ≡ n
    starts-here = grind (arith, cases_lt, r, home-start)

    before-here : (i : ℕ) → i < here.start → (i < size all) × IsMet d i
    before-here i lt = grind (arith, size, starts-here, r, home-start)

    member-here : (i : ℕ) → here.start ≤ i → i < here.start + length here.members → home all i ≡ here
    member-here i low high = home-again all n i inside (record { from = low; to = high })

    pub reads-here : (i : ℕ) → i < size all → IsMet (d ++ here ∷ []) i → number_in i ≡ later.number i
    reads-here i lt =
        step-by n (λ e s. (IsMet e i → number_in i ≡ s.number i) → IsMet (d ++ here ∷ []) i → number_in i ≡ later.number i)
        (λ old. absurd (let no : false ≡ true = sym unmet ∙ old in cc)) (λ new same. same) (reads (n + 1) i (omega (arith, inside)) lt)

    -- a type of an equal group has its index by its position
    pub number-here : (i : ℕ) → i < size all → IsEqual here i → number_in i ≡ length t.built.types + (i - (home all i).start)
    number-here i lt e = reads-here i lt (met-now d here i e) ∙ number-new d t here unmet i e

    module _ (near : NameEarlier 0 all) where
      pub near-here : All (λ i. i < here.start + length here.members) (group_edges (λ i. i) here.members)
      near-here = near-from all 0 n (omega arith) (omega (arith, inside)) near

      pub form-here : interned_group all later.number here.members ≡ form number_in here
      form-here =
          names-same (kind_at all) (kind_at all) later.number number_in here.members here.members (record {
            frames = refl;
            edges = zip-known-itself (λ i. i < here.start + length here.members) _
                (λ i lt. ap (λ k. name_by (kind_at all) (λ j. k) i) (sym (reads-here i (omega (arith, lt, (home-within all n inside).high))
                (elim (cases_lt i here.start) [
                  | inl low ↦ met-before d here i (before-here i low).1
                  | inr high ↦ met-now d here i (equal-home here i (member-here i high lt))
                ]))))
                (group_edges (λ i. i) here.members) near-here;
          })

      next-here : Next number_in t.built here
      next-here =
          let w = home-within all n inside in
          record {
            some = omega (arith, w.from, w.to);
            at = first-home n inside;
            inside = w.high;
            near = near-here;
            numbers = grind (arith, member-here, number-here, equal-home);
            below = λ i lt.
                let x = before-here i lt in
                omega (arith, reads n i (omega (arith, inside)) x.0 x.1, r.below i x.0 x.1);
          }

      follows-here : (hs : List Home) → Follows number_in later.built (d ++ here ∷ []) hs → Follows number_in t.built d (here ∷ hs)
      follows-here hs x = grind (arith, next-here, form-here, before-here)

  -- ---- all groups

  pub record Whole : Type 0 where
    pub groups : Follows number_in empty [] (taken_groups all)
    pub counted : length (taken all).declared ≡ size all
    pub below : (i : ℕ) → i < size all → number_in i < length (taken all).built.types
    pub exact : IsExactBelow number_in (size all)

  abbrev Leads : ℕ → List Home → Taking → Type 0
  Leads n d t = (hs : List Home) → Follows number_in t.built d hs → Follows number_in empty [] (d ++ hs)

  pub whole : NameEarlier 0 all → Whole
  whole near = record {
    groups = subst (Follows number_in empty []) (append-nil (taken_groups all)) (leads [] (record { stand = tt; covers = met; built = refl }));
    counted = length-map-range_with_len (state (size all)).number 0 (size all);
    below = λ i lt. omega (arith, at i lt, r.below i lt (met i lt));
    exact = λ i j lt lt'. (
      (λ e. r.told i j lt lt' (met i lt) (met j lt') (sym (at i lt) ∙ e ∙ at j lt')),
      (λ e. at i lt ∙ r.same i j lt lt' e ∙ sym (at j lt')),
    );
  } where
    r : Reaches (size all) (done_at (size all)) (state (size all))
    r = reaches (size all) (omega arith)

    met : (i : ℕ) → i < size all → IsMet (done_at (size all)) i
    met i lt = r.before i lt (omega (arith, lt, home-start all i))

    at : (i : ℕ) → i < size all → number_in i ≡ (state (size all)).number i
    at i lt = reads (size all) i (omega arith) lt (met i lt)

    leads : Leads (size all) (done_at (size all)) (state (size all))
    leads =
        through-places Leads (λ hs x. x) (λ n lt p old. p)
        (λ n lt p unmet hs x. subst (Follows number_in empty []) (sym (append_assoc (done_at n) (home all n ∷ []) hs))
        (p (home all n ∷ hs) (follows-here n lt unmet near hs x)))
        (size all) (omega arith)
