-- The order of the kinds of objects.
use Rattle.std.proofs.lemmas.Grind.{common_steps}
use Rattle.std.proofs.Common.{◌≡◌, ◌∙◌, ◌↔◌, Bool, true, eqb, sym, arith}
use Rattle.std.specs.Prelude.{bit_and, Contains}
use Rattle.std.specs.List.{list_any}
use Rattle.std.proofs.lemmas.Bool.{eqb-true, eq-eqb}
use Rattle.std.proofs.lemmas.Bool.Decides.{nat_tests}
use Rattle.std.specs.Cmp.{IsEquivalence}
use Rattle.std.proofs.lemmas.Map.Views.{Contains-from_any, list_any-from_Contains}
use Rattle.std.proofs.lemmas.Nat.{and_comm}
use Rattle.gc_layout.specs.declared.kind.VMGcKind.{VMGcKind}
use Rattle.gc_layout.specs.Kinds.{kind_number, MatchesKind, kinds_from}
use Rattle.gc_layout.proofs.Bits.{matches_by_and, and-from_bits}
use Rattle.gc_layout.proofs.Found.{all_kinds, has_number, find-number}

kind_number-injective : (a b : VMGcKind) → kind_number a ≡ kind_number b → a ≡ b
kind_number-injective a b same = grind (arith, find-number, has_number, all_kinds)

abbrev same_kind : VMGcKind → VMGcKind → Bool
same_kind a b = eqb (kind_number a) (kind_number b)

same_kind-true : (a b : VMGcKind) → same_kind a b ≡ true → a ≡ b
same_kind-true a b same = kind_number-injective a b (eqb-true _ _ same)

same_kind-laws : IsEquivalence same_kind
same_kind-laws = grind (arith, eq-eqb, nat_tests, eqb-true, eqb)

-- the test by bits searches for the other kind in the kinds above
test-lists : (a b : VMGcKind) → eqb (bit_and (kind_number a) (kind_number b)) (kind_number b) ≡ list_any (same_kind b) (kinds_from a)
test-lists a b = grind (arith, common_steps)

pub matches_as_tree : (a b : VMGcKind) → MatchesKind a b ↔ Contains (kinds_from a) b
matches_as_tree a b = (
  λ bits. Contains-from_any same_kind-true b (kinds_from a) (sym (test-lists a b) ∙ (matches_by_and (kind_number a) (kind_number b)).1 bits),
  λ listed. (matches_by_and (kind_number a) (kind_number b)).0 (test-lists a b ∙ list_any-from_Contains same_kind-laws b (kinds_from a) listed),
)

pub matches_antisymmetric : (a b : VMGcKind) → MatchesKind a b → MatchesKind b a → a ≡ b
matches_antisymmetric a b down up =
    kind_number-injective a b
    (sym (and-from_bits (kind_number b) (kind_number a) up)
    ∙ and_comm (kind_number b) (kind_number a)
    ∙ and-from_bits (kind_number a) (kind_number b) down)
