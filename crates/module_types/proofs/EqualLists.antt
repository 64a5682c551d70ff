-- Two lists of groups have equal interned lists exactly where they take equal groups in turn. What
-- is built determines the groups that it was built of.
use Rattle.std.proofs.lemmas.Grind.{common_steps}
use Rattle.std.proofs.Common.{◌≡◌, ◌∙◌, ◌↔◌, ◌<◌, ℕ, List, [], ◌∷◌, length, map, sym, ap, arith, ◌++◌, refl, inl, inr, ◌+◌, ◌-◌, ◌≤◌, subst}
use Rattle.std.proofs.lemmas.Bool.{false≢true}
use Rattle.std.proofs.lemmas.List.{length-map}
use Rattle.std.proofs.lemmas.List.Elements.{All-nil, All-cons, All-head, All-tail}
use Rattle.wasm_spec.specs.TypeData.{Group}
use Rattle.type_spec.specs.Equality.{Home, SameType, home, SameGroup}
use Rattle.type_spec.specs.Interned.{Interned, Built, empty, with_group, kind_at, taken, GroupSpan, next_span}
use Rattle.type_spec.specs.TakenGroups.{taken_groups}
use Rattle.type_spec.specs.Taken.{NameEarlier, TakeEqual, SameLists}
use Rattle.type_spec.proofs.ByNames.{name_by, same-kind}
use Rattle.module_types.specs.Runs.{with_groups, AllFilled}
use Rattle.module_types.proofs.Taking.{IsMet, Covers, form, Next, Stand, IsExactBelow, next-copy, number_in, whole}
use Rattle.type_spec.specs.ListLaws.{front-same, back-same}
use Rattle.module_types.proofs.GroupMembers.{types-apart, groups-apart, first-group, longer}
use Rattle.std.specs.List.{AllZip}
use Rattle.type_spec.proofs.Equivalence.{type-turned, type-chained, groups-long}
use Rattle.type_spec.proofs.Homes.{size, home-again}
use Rattle.module_types.proofs.Telling.{Tells, same-at, told}

-- a type of the group that comes next, by its position in the list
module _ (all : List (Group ℕ ℕ)) (number : ℕ → ℕ) (b : Built) (h : Home) (x : Next all number b h) where
  pub next-home : (r : ℕ) → h.start ≤ r → r < h.start + length h.members → home all r ≡ h
  next-home r low high = grind (arith, home-again)

  pub next-place : (r : ℕ) → h.start ≤ r → r < h.start + length h.members → r - (home all r).start ≡ r - h.start
  next-place r low high = ap (λ (g : Home). r - g.start) (next-home r low high)

  pub next-number : (r : ℕ) → h.start ≤ r → r < h.start + length h.members → number r ≡ length b.types + (r - h.start)
  next-number r low high =
      let at : r ≡ h.start + (r - h.start) = omega (arith, low) in
      ap number at ∙ x.numbers (r - h.start) (omega (arith, low, high))

module _ (ms ns : List (Group ℕ ℕ)) (number number' : ℕ
    → ℕ) (exact : IsExactBelow ms number (size ms)) (exact' : IsExactBelow ns number' (size ns)) where
  abbrev Same : ℕ → ℕ → Type 0
  Same i j = SameType ms ns i j

  -- an equal type of the other list has the same index
  pub record Bridge (i : ℕ) : Type 0 where
    pub other : ℕ
    pub lt : other < size ns
    pub same : SameType ms ns i other
    pub number_is : number i ≡ number' other

  -- where there is one, indices distinguish the types of the other list from it
  across : (i j : ℕ) → Bridge i → j < size ns → (number i ≡ number' j) ↔ SameType ms ns i j
  across i j b lt = (
    (λ same. type-chained ms ns ns i b.other j b.same ((exact' b.other j b.lt lt).0 (sym b.number_is ∙ same))),
    (λ same. b.number_is ∙ (exact' b.other j b.lt lt).1 (type-chained ns ms ns b.other i j (type-turned ms ns i b.other b.same) same)),
  )

  module _ (b : Built) (h k : Home) (x : Next ms number b h) (y : Next ns number' b k) (bridges : (i : ℕ) → i < size ms → i < h.start
      → Bridge i) where
    tells : Tells ms ns h k (h.start + length h.members) (k.start + length k.members) (kind_at ms) (kind_at ns) number number'
    tells = record {
      near = x.near;
      near' = y.near;
      home_is = next-home ms number b h x;
      home_is' = next-home ns number' b k y;
      inside = λ r s low p low' q.
          let one = next-number ms number b h x r low p in
          let two = next-number ns number' b k y s low' q in
          ((λ e. omega (arith, e, one, two)), (λ e. one ∙ ap (λ n. length b.types + n) e ∙ sym two));
      outside = λ r s low p low' q. across r s (bridges r (omega (arith, p, x.inside)) low) (omega (arith, q, y.inside));
      apart = λ r s low p low' e. omega (arith, e, next-number ms number b h x r low p, y.below s low');
      apart' = λ r s low low' q e. omega (arith, e, next-number ns number' b k y s low' q, x.below r low);
      kinds = λ r s p q same. same-kind ms ns r s (omega (arith, p, x.inside)) (omega (arith, q, y.inside)) same;
    }

    -- two groups that come next become equal groups exactly where they are equal
    pub forms-told : (form ms number h ≡ form ns number' k) ↔ SameGroup Same h k
    forms-told = told ms ns h k (h.start + length h.members) (k.start + length k.members) (kind_at ms) (kind_at ns) number number' tells

    module _ (groups : SameGroup Same h k) (done : List Home) (bridged : (i : ℕ) → i < size ms → IsMet ms done i → Bridge i) where
      bridge-more : (i : ℕ) → i < size ms → IsMet ms (done ++ h ∷ []) i → Bridge i
      bridge-more i lt met =
          elim (next-copy ms number b h x done i lt met) [
            | inr c ↦
                let p = i - (home ms i).start in
                let long = groups-long Same h k groups in
                let at : h.start + p - h.start ≡ k.start + p - k.start = omega arith in
                record {
                  other = k.start + p;
                  lt = omega (arith, c.lt, long, y.inside);
                  same = type-chained ms ms ns i (h.start + p) (k.start + p) c.same
                      (same-at ms ns h k (h.start + length h.members) (k.start + length k.members) (kind_at ms) (kind_at ns) number number' tells groups
                      (h.start + p) (k.start + p) (omega arith) (omega (arith, c.lt)) (omega arith) (omega (arith, c.lt, long)) at);
                  number_is = grind arith;
                }
            | inl old ↦ bridged i lt old
          ]

  pub all-told : (hs ks : List Home) (b : Built) (done : List Home) → Stand ms number b hs → Covers ms done hs → Stand ns number' b ks
      → ((i : ℕ) → i < size ms → IsMet ms done i → Bridge i)
      → (map (form ms number) hs ≡ map (form ns number') ks) ↔ AllZip (SameGroup Same) hs ks
  all-told [] [] b done x covers y bridged = (λ same. tt, λ same. refl)
  all-told (h ∷ hs) (k ∷ ks) b done x covers y bridged =
      let bridges : (i : ℕ) → i < size ms → i < h.start → Bridge i = λ i lt before. bridged i lt (covers.0 i before) in
      let one = forms-told b h k x.0 y.0 bridges in
      let rest : (same : form ms number h ≡ form ns number' k) (groups : SameGroup Same h k)
      → (map (form ms number) hs ≡ map (form ns number') ks) ↔ AllZip (SameGroup Same) hs ks = λ same groups.
      all-told hs ks (with_group b (form ms number h)) (done ++ h ∷ []) x.1 covers.1
      (subst (λ ts. Stand ns number' (with_group b ts) ks) (sym same) y.1)
      (bridge-more b h k x.0 y.0 bridges groups done bridged) in (
        (λ same.
            let whole : form ms number h ∷ map (form ms number) hs ≡ form ns number' k ∷ map (form ns number') ks = same in
            let first : form ms number h ≡ form ns number' k = cc in
            let others : map (form ms number) hs ≡ map (form ns number') ks = cc in
            (one.0 first, (rest first (one.0 first)).0 others)),
        (λ same.
            let first = one.1 same.0 in
            λ i. first i ∷ ((rest first same.0).1 same.1) i),
      )
  all-told _ _ _ _ _ _ _ _ = grind arith

pub groups_determined : (b : Built) (tss uss : List (List Interned)) → AllFilled tss → AllFilled uss
    → (with_groups b tss).types ≡ (with_groups b uss).types → (with_groups b tss).groups ≡ (with_groups b uss).groups → tss ≡ uss
groups_determined b [] [] p q types groups = refl
groups_determined b [] (us ∷ uss) p q types groups = absurd (longer b us uss (All-head (λ ts. 0 < length ts) us uss q) types)
groups_determined b (ts ∷ tss) [] p q types groups = absurd (longer b ts tss (All-head (λ ts. 0 < length ts) ts tss p) (sym types))
groups_determined b (ts ∷ tss) (us ∷ uss) p q types groups =
    let x = first-group b ts tss in
    let y = first-group b us uss in
    let spans : next_span b (length ts) ∷ x.groups_more ≡ next_span b (length us) ∷ y.groups_more = grind (arith, common_steps, back-same, groups-apart) in
    let first : next_span b (length ts) ≡ next_span b (length us) = cc in
    let long : length ts ≡ length us = omega (arith, ap (λ (s : GroupSpan). s.end) first) in
    let same : ts ≡ us = grind (arith, common_steps, front-same, back-same, types-apart) in
    let rest = groups_determined (with_group b ts) tss uss (All-tail (λ ts. 0 < length ts) ts tss p) (All-tail (λ ts. 0 < length ts) us uss q)
    (types ∙ ap (λ vs. (with_groups (with_group b vs) uss).types) (sym same))
    (groups ∙ ap (λ vs. (with_groups (with_group b vs) uss).groups) (sym same)) in
    λ i. same i ∷ rest i

module _ (all : List (Group ℕ ℕ)) (number : ℕ → ℕ) where
  filled : (hs : List Home) (b : Built) → Stand all number b hs → AllFilled (map (form all number) hs)
  filled [] b x = All-nil (λ (ts : List Interned). 0 < length ts)
  filled (h ∷ hs) b x = grind (arith, All-cons, form, length-map, name_by, (filled hs (with_group b (form all number h)) x.1))

pub equal-lists : (ms ns : List (Group ℕ ℕ)) → NameEarlier 0 ms → NameEarlier 0 ns → SameLists (taken ms).built (taken ns).built ↔ TakeEqual ms ns
equal-lists ms ns near near' =
    let w = whole ms near in
    let w' = whole ns near' in
    let hs = taken_groups ms in
    let ks = taken_groups ns in
    let both = all-told ms ns (number_in ms) (number_in ns) w.exact w'.exact hs ks empty [] w.groups.stand w.groups.covers w'.groups.stand (λ i lt none. absurd (false≢true none)) in (
      (λ same. both.0 (groups_determined empty _ _ (filled ms (number_in ms) hs empty w.groups.stand) (filled ns (number_in ns) ks empty w'.groups.stand)
          (ap (λ (b : Built). b.types) (sym w.groups.built) ∙ same.types ∙ ap (λ (b : Built). b.types) w'.groups.built)
          (ap (λ (b : Built). b.groups) (sym w.groups.built) ∙ same.groups ∙ ap (λ (b : Built). b.groups) w'.groups.built))),
      (λ same.
          let one : (taken ms).built ≡ (taken ns).built = w.groups.built ∙ ap (with_groups empty) (both.1 same) ∙ sym w'.groups.built in
          grind arith),
    )

pub declared : (ms : List (Group ℕ ℕ)) → NameEarlier 0 ms → (i j : ℕ) → i < length (taken ms).declared → j < length (taken ms).declared
    → (number_in ms i ≡ number_in ms j) ↔ SameType ms ms i j
declared ms near i j h k =
    let w = whole ms near in
    w.exact i j (omega (arith, h, w.counted)) (omega (arith, k, w.counted))
