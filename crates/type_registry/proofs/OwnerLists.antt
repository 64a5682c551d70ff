-- Lists of owners.
use Rattle.std.proofs.Common.{if◌then◌else◌, ◌≡◌, ◌∙◌, ℕ, zero, suc, true, nat_eq, List, [], ◌∷◌, ◌++◌, length, map, set, slice_get, Option, Some, None, refl, sym, ap, arith, length-set, eq-eqb}
use Rattle.std.specs.List.{list_any}
use Rattle.std.proofs.Math.Dec.{eqb-suc-zero, eqb-zero-suc, eqb-suc-suc}
use Rattle.std.proofs.lemmas.Bool.{eqb-true, cases_Bool}
use Rattle.std.proofs.lemmas.Bool.Decides.{nat_tests}
use Rattle.std.proofs.lemmas.Map.Keys.{any_passes_from_place}
use Rattle.std.proofs.lemmas.List.{map-set}
use Rattle.std.proofs.lemmas.Option.{slice_get-get_or}
use Rattle.std.proofs.lemmas.Map.Views.{Contains-from_any}
use Rattle.type_registry.specs.declared.owners.Owner.{Owner}
use Rattle.type_registry.specs.Owners.{owner_at, free_count, emptied}

abbrev nobody : Option Owner
nobody = None

owner-emptied : (os : List (Option Owner)) (n i : ℕ) → owner_at (set os n None) i ≡ (if nat_eq i n then nobody else owner_at os i)
owner-emptied [] n i = grind (arith, nat_tests)
owner-emptied (o ∷ os) zero zero = refl
owner-emptied (o ∷ os) zero (suc i) = ap (λ c. if c then nobody else owner_at os i) (sym (eqb-suc-zero i))
owner-emptied (o ∷ os) (suc n) zero = ap (λ c. if c then nobody else owner_at (o ∷ os) 0) (sym (eqb-zero-suc n))
owner-emptied (o ∷ os) (suc n) (suc i) = owner-emptied os n i ∙ ap (λ c. if c then nobody else owner_at os i) (sym (eqb-suc-suc i n))

pub emptied-at : (os : List (Option Owner)) (ns : List ℕ) (i : ℕ) → owner_at (emptied os ns) i ≡ (if list_any (nat_eq i) ns then nobody else owner_at os i)
emptied-at os [] i = refl
emptied-at os (n ∷ ns) i = grind (arith, set, owner-emptied, cases_Bool, nat_eq, nat_tests, (emptied-at (set os n None) ns i))

pub emptied-length : (os : List (Option Owner)) (ns : List ℕ) → length (emptied os ns) ≡ length os
emptied-length os [] = refl
emptied-length os (n ∷ ns) = emptied-length (set os n None) ns ∙ length-set os n None

pub emptied-push : (os : List (Option Owner)) (ns : List ℕ) (n : ℕ) → emptied os (ns ++ n ∷ []) ≡ set (emptied os ns) n None
emptied-push os [] n = refl
emptied-push os (m ∷ ns) n = emptied-push (set os m None) ns n

-- ---- which numbers a list has

pub any-place : (ns : List ℕ) (i p : ℕ) → slice_get ns p ≡ Some i → list_any (nat_eq i) ns ≡ true
any-place ns i p at = any_passes_from_place (nat_eq i) ns p i at (eq-eqb i i refl)

-- a position of a number
pub record Place (ns : List ℕ) (i : ℕ) : Type 0 where
  pub place : ℕ
  pub at : slice_get ns place ≡ Some i

pub place-any : (ns : List ℕ) (i : ℕ) → list_any (nat_eq i) ns ≡ true → Place ns i
place-any ns i e = grind (arith, Contains-from_any eqb-true i ns e, slice_get-get_or, eqb-true)

-- ---- which numbers are free

pub given-set : (os : List (Option Owner)) (i : ℕ) (o : Option Owner) (free new : List ℕ) → o ≡ None → free ≡ map free_count os → new ≡ set free i 1
    → new ≡ map free_count (set os i o)
given-set os i o free new none are is = grind (arith, map-set)

pub taken-set : (os : List (Option Owner)) (i : ℕ) (o : Option Owner) (p : Owner) (free new : List ℕ) → o ≡ Some p → free ≡ map free_count os
    → new ≡ set free i 0 → new ≡ map free_count (set os i o)
taken-set os i o p free new some are is = grind (arith, map-set)
