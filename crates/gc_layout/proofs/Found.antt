-- The kind of a number, as a search through the kinds finds it.
use Rattle.std.proofs.lemmas.Grind.{common_steps}
use Rattle.std.proofs.Common.{arith, ◌≡◌, ◌∙◌, ◌↔◌, ℕ, Bool, true, List, [], ◌∷◌, Option, Some, None, option_map, eqb, refl, ap, sym, ⊎_elim}
use Rattle.std.proofs.lemmas.Bool.{eqb-true, cases_Bool}
use Rattle.std.specs.List.{find}
use Rattle.gc_layout.specs.declared.kind.VMGcKind.{VMGcKind}
use Rattle.gc_layout.specs.declared.kind.VMGcKind.TheVariants.{ExternRef, AnyRef, EqRef, ArrayRef, StructRef, ExnRef}
use Rattle.gc_layout.specs.Kinds.{kind_number}

abbrev pub all_kinds : List VMGcKind
all_kinds = ExternRef ∷ AnyRef ∷ EqRef ∷ ArrayRef ∷ StructRef ∷ ExnRef ∷ []

abbrev pub has_number : ℕ → VMGcKind → Bool
has_number x kind = eqb (kind_number kind) x

-- what is found passes
find-passes : {X : Type 0} (test : X → Bool) (xs : List X) (x : X) → find test xs ≡ Some x → test x ≡ true
find-passes test [] x found = cc
find-passes test (y ∷ ys) x found =
    ⊎_elim
    (λ yes. let same : y ≡ x = cc in ap test (sym same) ∙ yes)
    (λ no. find-passes test ys x (rw no at found))
    (cases_Bool (test y))

pub find-number : (kind : VMGcKind) → find (has_number (kind_number kind)) all_kinds ≡ Some kind
find-number kind = grind (arith, common_steps)

option_map-same : {X : Type 0} (o : Option X) → option_map (λ x. x) o ≡ o
option_map-same None = refl
option_map-same (Some x) = refl

pub kind_found : (x : ℕ) (found : Option VMGcKind) → option_map (λ kind. kind) found ≡ find (has_number x) all_kinds
    → (kind : VMGcKind) → (found ≡ Some kind) ↔ (kind_number kind ≡ x)
kind_found x found mapped kind = grind (arith, option_map-same, eqb-true, find-passes, find-number)
