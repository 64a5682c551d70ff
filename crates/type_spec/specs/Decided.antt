-- Whether types are equal, and laws, with their proofs: the test of equality decides it.
use Rattle.std.proofs.Common.{◌≡◌, ◌↔◌, ℕ, zero, suc, ◌-◌, Bool, true, false, nat_eq, List, [], ◌∷◌, refl}
use Rattle.std.specs.Bool.{Decides}
use Rattle.std.specs.List.{AllZip}
use Rattle.std.specs.Cmp.Lexicographic.{pointwise}
use Rattle.std.proofs.lemmas.Bool.Decides.{Decides-and, Decides-eqb}
use Rattle.wasm_spec.specs.TypeData.{Group}
use Rattle.type_spec.specs.TypeShapes.{group_shape}
use Rattle.type_spec.specs.Names.{plainly, frame}
use Rattle.type_spec.specs.Same.{same_frame}
use Rattle.type_spec.specs.Equality.{Target, Inside, Earlier, target, Home, home, SameTarget, SameGroup, SameDown, SameType, same_target, same_edge, same_group, same_down, same_type}
use Rattle.type_spec.specs.Tests.{frame-decides}

module _ (test : ℕ → ℕ → Bool) (Same : ℕ → ℕ → Type 0) (decides : (i j : ℕ) → (test i j ≡ true) ↔ Same i j) where
  target-decided : (t u : Target ℕ) → Decides (same_target test t u) (SameTarget Same t u)
  target-decided (Inside p) (Inside q) = Decides-eqb p q
  target-decided (Earlier i) (Earlier j) = decides i j
  target-decided (Inside p) (Earlier j) = (λ same. let no : false ≡ true = same in cc, λ same. absurd same)
  target-decided (Earlier i) (Inside q) = (λ same. let no : false ≡ true = same in cc, λ same. absurd same)

  module _ (g h : Home) where
    zip-decided : (rs ss : List ℕ) → Decides (pointwise (same_edge test g h) rs ss)
        (AllZip (λ r s. SameTarget Same (target (λ i. i) g.start r) (target (λ i. i) h.start s)) rs ss)
    zip-decided [] [] = (λ same. tt, λ all. refl)
    zip-decided [] (s ∷ ss) = (λ same. cc, λ all. absurd all)
    zip-decided (r ∷ rs) [] = (λ same. cc, λ all. absurd all)
    zip-decided (r ∷ rs) (s ∷ ss) =
        Decides-and (same_edge test g h r s) (pointwise (same_edge test g h) rs ss)
        (target-decided (target (λ i. i) g.start r) (target (λ i. i) h.start s)) (zip-decided rs ss)

    pub group-decided : (same_group test g h ≡ true) ↔ SameGroup Same g h
    group-decided =
        let both = Decides-and (same_frame (frame (plainly group_shape) g.members) (frame (plainly group_shape) h.members)) _
        (frame-decides _ _) (zip-decided _ _) in (
          (λ same. let parts = both.0 same in record { frames = parts.0; edges = parts.1 }),
          (λ same. both.1 (same.frames, same.edges)),
        )

pub down-decided : (depth : ℕ) (ms ns : List (Group ℕ ℕ)) (i j : ℕ) → (same_down depth ms ns i j ≡ true) ↔ SameDown depth ms ns i j
down-decided zero ms ns i j = (λ same. let no : false ≡ true = same in cc, λ same. absurd same)
down-decided (suc depth) ms ns i j =
    Decides-and (nat_eq (i - (home ms i).start) (j - (home ns j).start)) _ (Decides-eqb (i - (home ms i).start) (j - (home ns j).start))
    (group-decided (same_down depth ms ns) (SameDown depth ms ns) (down-decided depth ms ns) (home ms i) (home ns j))

-- whether two types are equal: what it says determines the answer
pub decide_type : (ms ns : List (Group ℕ ℕ)) (i j : ℕ) → (equal : Bool) × Decides equal (SameType ms ns i j)
decide_type ms ns i j = (same_type ms ns i j, down-decided (suc i) ms ns i j)
