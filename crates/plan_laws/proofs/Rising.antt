-- What the types of a plan keep, from what calls ensure.
use Rattle.std.proofs.Common.{◌≡◌, ◌∙◌, ◌<◌, ℕ, List, [], ◌∷◌, map, arith, sym}
use Rattle.std.specs.List.{AllByRecursion}
use Rattle.std.specs.List.Sorted.{IsStrictlySortedBy}
use Rattle.std.specs.Map.{keys_of}
use Rattle.std.specs.Ordering.{nat_cmp}
use Rattle.std.specs.declared.cmp.Ordering.{Ordering}
use Rattle.std.specs.declared.cmp.Ordering.TheVariants.{Less}
use Rattle.std.proofs.lemmas.Grind.{common_steps}
use Rattle.plan_laws.specs.Kept.{IsBelowAll, Rises}

less-is : (a b : ℕ) → nat_cmp a b ≡ Less → a < b
less-is a b e = grind (arith, common_steps)

module _ {K X V : Type 0} (cmp : K → K → Ordering) (number : K → ℕ) (see : X → V) (by : (a b : K) → cmp a b ≡ nat_cmp (number a) (number b)) where
  below-all : (k : K) (es : List (K × X)) → AllByRecursion (λ y. cmp k y ≡ Less) (keys_of es)
      → IsBelowAll (number k) (map (λ (e : K × X). (number e.0, see e.1)) es)
  below-all k [] all = tt
  below-all k (e ∷ es) all = (less-is (number k) (number e.0) (sym (by k e.0) ∙ all.0), below-all k es all.1)

  pub rises : (es : List (K × X)) → IsStrictlySortedBy cmp (keys_of es) → Rises (map (λ (e : K × X). (number e.0, see e.1)) es)
  unfolding IsStrictlySortedBy
  rises [] sorted = tt
  rises (e ∷ es) sorted = (below-all e.0 es sorted.0, rises es sorted.1)
