-- How often lists have numbers, and how often held modules have groups.
use Rattle.std.proofs.Common.{if◌then◌else◌, ◌≡◌, ◌<◌, ◌≤◌, ℕ, zero, suc, ◌+◌, Bool, true, false, nat_eq, List, [], ◌∷◌, ◌++◌, Option, Some, refl, ap, arith, eq-eqb}
use Rattle.std.specs.List.{flat_map, list_any}
use Rattle.std.proofs.lemmas.Bool.{ne_eqb}
use Rattle.std.proofs.lemmas.Bool.Decides.{nat_tests}
use Rattle.type_registry.specs.Registry.{Module}
use Rattle.type_registry.specs.Changes.{with_module, without_module}
use Rattle.type_registry.specs.Balanced.{times, times_in, times_below}
use Rattle.type_registry.proofs.KeepingAll.{any-second}
use Rattle.type_registry.proofs.NewGroups.{any-left, any-right}

-- ---- lists

pub times-append : (n : ℕ) (xs ys : List ℕ) → times n (xs ++ ys) ≡ times n xs + times n ys
times-append n [] ys = omega arith
times-append n (x ∷ xs) ys = omega (arith, times-append n xs ys)

pub times-first : (n : ℕ) (xs : List ℕ) → 0 < times n (n ∷ xs)
times-first n xs = omega (arith, ap {B = ℕ} (λ (c : Bool). if c then 1 else 0) (eq-eqb n n refl))

-- lists concatenated by number equal other ones that are equal at each number of the list
pub flat-same : (ix ix' : ℕ → List ℕ) (ns : List ℕ) → ((n : ℕ) → 0 < times n ns → ix n ≡ ix' n) → flat_map ix ns ≡ flat_map ix' ns
flat-same ix ix' [] same = refl
flat-same ix ix' (x ∷ ns) same = grind (arith, times-first, (flat-same ix ix' ns (λ n lt. same n (omega (arith, lt)))))

pub flat-has : (ix : ℕ → List ℕ) (ns : List ℕ) (n i : ℕ) → 0 < times n ns → list_any (nat_eq i) (ix n) ≡ true → list_any (nat_eq i) (flat_map ix ns) ≡ true
flat-has ix [] n i lt has = absurd (omega (arith, lt))
flat-has ix (x ∷ ns) n i lt has = grind (arith, any-left, any-right, nat_tests, (flat-has ix ns n i))

-- a number of the list whose list has an index
pub record IsFrom (ix : ℕ → List ℕ) (ns : List ℕ) (i : ℕ) : Type 0 where
  pub number : ℕ
  pub is_in : 0 < times number ns
  pub has : list_any (nat_eq i) (ix number) ≡ true

pub flat-from : (ix : ℕ → List ℕ) (ns : List ℕ) (i : ℕ) → list_any (nat_eq i) (flat_map ix ns) ≡ true → IsFrom ix ns i
flat-from ix [] i has = let no-way : false ≡ true = has in cc
flat-from ix (x ∷ ns) i has = grind (arith, times-first, any-second, (flat-from ix ns i))

-- ---- held modules

pub below-next : (held : ℕ → Option Module) (first n : ℕ) → times_below held first (n + 1) ≡ times_below held first n + times_in first (held n)
below-next held first n = let one : n + 1 ≡ suc n = omega arith in ap (times_below held first) one

pub below-with : (held : ℕ → Option Module) (key first n : ℕ) (m : Module) → n ≤ key
    → times_below (with_module held key m) first n ≡ times_below held first n
below-with held key first zero m le = refl
below-with held key first (suc n) m le = grind (arith, ne_eqb, (below-with held key first n m (omega (arith, le))))

below-low : (held : ℕ → Option Module) (key first n : ℕ) → n ≤ key → times_below (without_module held key) first n ≡ times_below held first n
below-low held key first zero le = refl
below-low held key first (suc n) le = grind (arith, ne_eqb, (below-low held key first n (omega (arith, le))))

pub below-without : (held : ℕ → Option Module) (key first n : ℕ) (m : Module) → held key ≡ Some m → key < n
    → times_below (without_module held key) first n + times first m.groups ≡ times_below held first n
below-without held key first zero m is lt = absurd (omega (arith, lt))
below-without held key first (suc n) m is lt = grind (arith, below-low, nat_tests, (below-without held key first n m is))

-- a held module has a group no more often than all
pub below-one : (held : ℕ → Option Module) (key first n : ℕ) (m : Module) → held key ≡ Some m → key < n → times first m.groups ≤ times_below held first n
below-one held key first n m is lt = omega (arith, below-without held key first n m is lt)

-- a held module that has a group
pub record IsHad (held : ℕ → Option Module) (first : ℕ) : Type 0 where
  pub key : ℕ
  pub listed : Module
  pub is : held key ≡ Some listed
  pub has : 0 < times first listed.groups

pub below-some : (held : ℕ → Option Module) (first n : ℕ) → 0 < times_below held first n → IsHad held first
below-some held first zero lt = absurd (omega (arith, lt))
below-some held first (suc n) lt = grind (arith, (below-some held first n))
