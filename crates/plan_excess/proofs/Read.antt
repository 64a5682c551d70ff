-- Entries of a list of which all, or the first, have a property.
use Rattle.std.proofs.Common.{◌≡◌, ℕ, ◌<◌, List, length, take, Option, Some, None, refl, subst, ◌∙◌, arith}
use Rattle.std.specs.Prelude.{All, IfSome, slice_get}
use Rattle.std.proofs.Math.Seq.{get_or-take}
use Rattle.std.proofs.lemmas.List.{length-take}
use Rattle.std.proofs.lemmas.List.Elements.{All-get_or}
use Rattle.std.proofs.lemmas.Option.{slice_get_within, get_or_from_slice_get}
use Rattle.rule_breaks.specs.Search.{IsFirstWithout}
use Rattle.rule_breaks.proofs.Searching.{inside}

module _ {X : Type 0} (P : X → Type 0) (xs : List X) where
  pub all-at : All P xs → (i : ℕ) (x : X) → slice_get xs i ≡ Some x → P x
  all-at all i x at = subst P (get_or_from_slice_get xs i x x at) (All-get_or P xs i x (slice_get_within xs i x at) all)

  pub before-at : (n : ℕ) → All P (take n xs) → (i : ℕ) (x : X) → i < n → slice_get xs i ≡ Some x → P x
  before-at n all i x lt at =
      let within : i < length xs = slice_get_within xs i x at in
      subst P (get_or-take n xs i x lt ∙ get_or_from_slice_get xs i x x at)
      (All-get_or P (take n xs) i x (omega (arith, lt, within, length-take n xs)) all)

  -- the entry that lacks it
  pub record Lacks (n : ℕ) : Type 0 where
    pub entry : X
    pub stands : slice_get xs n ≡ Some entry
    pub lacks : P entry → ⊥

  pub lacks-at : (n : ℕ) → IsFirstWithout P xs n → Lacks n
  lacks-at n first = found (slice_get xs n) refl first.lacks where
    found : (o : Option X) → slice_get xs n ≡ o → IfSome o (λ x. ¬ P x) → Lacks n
    found None is lacks = absurd (inside xs n first.listed is)
    found (Some x) is lacks = record { entry = x; stands = is; lacks = lacks }
