-- How often modules have a kept group once groups are kept, counted or left.
use Rattle.std.proofs.Common.{if◌then◌else◌, ◌≡◌, ◌∙◌, ◌<◌, ℕ, ◌+◌, ◌-◌, Bool, true, nat_eq, List, [], ◌∷◌, map, Option, Some, refl, ap, arith, ◌⊎◌, inl}
use Rattle.std.specs.Map.{set_value}
use Rattle.std.proofs.lemmas.Bool.{eqb-true}
use Rattle.std.proofs.lemmas.Option.{none-some}
use Rattle.std.proofs.lemmas.Bool.Decides.{nat_tests}
use Rattle.type_registry.specs.Registry.{Group, Groups}
use Rattle.type_registry.specs.Changes.{keep_group, keep_groups, count_group, count_groups, leave_group, leave_groups}
use Rattle.type_registry.specs.Standing.{AreOrdered}
use Rattle.type_registry.specs.Balanced.{times, count_in}
use Rattle.type_registry.specs.Counted.{counted}
use Rattle.type_registry.proofs.Sound.{found, found-keep, IsBut, counted-is, leave-ordered, leave-was, found-remove}
use Rattle.type_registry.proofs.Times.{times-first}

-- ---- a group that is there

pub record IsThere (o : Option Group) : Type 0 where
  pub group : Group
  pub is : o ≡ Some group

pub there-of : (o : Option Group) → 0 < count_in o → IsThere o
there-of o lt = grind arith

abbrev one_if : Bool → ℕ
one_if c = if c then 1 else 0

-- ---- groups are kept

-- the first indices of groups
abbrev pub firsts_of : Groups → List ℕ
firsts_of es = map (λ (e : ℕ × Group). e.0) es

-- what is kept once more groups are was kept or is new
pub kept-was : (gs es : Groups) (i : ℕ) (h : Group) → found (keep_groups gs es) i ≡ Some h → (found gs i ≡ Some h) ⊎ (0 < times i (firsts_of es))
kept-was gs [] i h is = inl is
kept-was gs (e ∷ es) i h is = grind (arith, nat_eq, found, found-keep, (kept-was (keep_group gs e.0 e.1) es i h is))

-- new groups that no module has yet count nothing
pub keep-none : (gs es : Groups) (i : ℕ) → count_in (found gs i) ≡ 0 → counted es ≡ 0 → count_in (found (keep_groups gs es) i) ≡ 0
keep-none gs [] i none new = none
keep-none gs (e ∷ es) i none new = keep-none (keep_group gs e.0 e.1) es i (grind (arith, nat_tests, found-keep gs e.0 i e.1)) (omega (arith, new))

-- ---- groups are counted

found-set : (gs : Groups) (f i : ℕ) (g h : Group) → found gs f ≡ Some g → found (set_value (nat_eq f) gs h) i ≡ (if nat_eq i f then Some h else found gs i)
found-set [] f i g h is = absurd (none-some g is)
found-set (e ∷ gs) f i g h is = let rest = found-set gs f i g h in grind (arith, nat_tests)

count-one : (gs : Groups) (f i : ℕ) (g : Group) (n : ℕ) → found gs f ≡ Some g
    → count_in (found (set_value (nat_eq f) gs (record g { count = n })) i) ≡ (if nat_eq i f then n else count_in (found gs i))
count-one gs f i g n is = let all = found-set gs f i g (record g { count = n }) is in grind (arith, nat_tests)

count-at : (gs : Groups) (f i : ℕ) (g : Group) → found gs f ≡ Some g → nat_eq i f ≡ true → count_in (found gs i) ≡ g.count
count-at gs f i g is same = ap (λ k. count_in (found gs k)) (eqb-true i f same) ∙ ap count_in is

one-more : (gs : Groups) (f i : ℕ) (o : Option Group) → found gs f ≡ o → IsThere o
    → count_in (found (count_group gs f o) i) ≡ count_in (found gs i) + one_if (nat_eq i f)
one-more gs f i o h1 h2 = grind (arith, none-some, count-one, count-at, nat_tests)

-- each kept group is counted as often more as it is listed
pub counted-more : (gs : Groups) (fs : List ℕ) (i : ℕ) → ((n : ℕ) → 0 < times n fs → IsThere (found gs n))
    → count_in (found (count_groups gs fs) i) ≡ count_in (found gs i) + times i fs
counted-more gs [] i there = omega arith
counted-more gs (f ∷ fs) i there =
    let still : (n : ℕ) → 0 < times n fs → IsThere (found (count_group gs f (found gs f)) n) =
    λ n lt. let w = there n (omega (arith, lt)) in let b = counted-is gs (f ∷ []) n w.group w.is in record { group = b.group; is = b.kept } in
    omega (arith, counted-more (count_group gs f (found gs f)) fs i still, one-more gs f i (found gs f) refl (there f (times-first f fs)))

-- ---- groups are left

one-less : (gs : Groups) (f i : ℕ) (o : Option Group) → found gs f ≡ o → AreOrdered gs
    → count_in (found (leave_group gs f o) i) ≡ count_in (found gs i) - one_if (nat_eq i f)
one-less gs f i o h1 h2 = grind (arith, found, nat_tests, found-remove, count-one, count-at)

-- each kept group is counted as often less as it is listed
pub left-less : (gs : Groups) (fs : List ℕ) (i : ℕ) → AreOrdered gs → count_in (found (leave_groups gs fs) i) ≡ count_in (found gs i) - times i fs
left-less gs [] i ordered = omega arith
left-less gs (f ∷ fs) i ordered = grind (arith, found, leave-ordered, one-less, (left-less (leave_group gs f (found gs f)) fs i (leave-ordered gs f (found gs f) ordered)))

-- each kept group is counted
abbrev pub AreHad : Groups → Type 0
AreHad gs = (i : ℕ) (g : Group) → found gs i ≡ Some g → 0 < g.count

one-had : (gs : Groups) (f : ℕ) (o : Option Group) → found gs f ≡ o → AreOrdered gs → AreHad gs → AreHad (leave_group gs f o)
one-had gs f o h1 h2 h3 = grind (arith, found-remove, found-set, nat_tests)

pub left-had : (gs : Groups) (fs : List ℕ) → AreOrdered gs → AreHad gs → AreHad (leave_groups gs fs)
left-had gs [] ordered had = had
left-had gs (f ∷ fs) ordered had = grind (arith, (left-had (leave_group gs f (found gs f)) fs (leave-ordered gs f (found gs f) ordered) (one-had gs f (found gs f) refl ordered had)))

-- what is kept once groups are left was kept, except for its count
pub left-was : (gs : Groups) (fs : List ℕ) (i : ℕ) (h : Group) → AreOrdered gs → found (leave_groups gs fs) i ≡ Some h → IsBut gs i h
left-was gs [] i h ordered is = record { group = h; kept = is; same = refl }
left-was gs (f ∷ fs) i h ordered is =
    let w = left-was (leave_group gs f (found gs f)) fs i h (leave-ordered gs f (found gs f) ordered) is in
    let x = leave-was gs f (found gs f) refl ordered i w.group w.kept in
    record { group = x.group; kept = x.kept; same = x.same ∙ w.same }
