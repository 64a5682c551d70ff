-- Canonical groups are equal exactly where the groups are.
use Rattle.std.proofs.Common.{◌≡◌, ◌↔◌, ℕ, ◌-◌, ◌<◌, Bool, true, false, nat_le, ap, refl}
use Rattle.std.proofs.lemmas.Bool.{leb-false}
use Rattle.type_spec.specs.TypeShapes.{group_shape}
use Rattle.type_spec.specs.Names.{plainly, Alike, alike-mapped, mapped-alike, zip-becomes}
use Rattle.type_spec.specs.Equality.{Inside, Earlier, target_by, target, Home, SameTarget, SameGroup, canonical}

-- alike by one relation is alike by another that follows from it
alike-becomes : (Same Same' : ℕ → ℕ → Type 0) → ((r s : ℕ) → Same r s → Same' r s) → (g h : Home)
    → Alike (plainly group_shape) Same g.members h.members → Alike (plainly group_shape) Same' g.members h.members
alike-becomes Same Same' each g h alike = record {
  frames = alike.frames;
  edges = zip-becomes (plainly group_shape) Same Same' each _ _ alike.edges;
}

-- where numbers of types before two groups are equal exactly for the same types, the groups'
-- canonical forms are equal exactly where the groups are
module _ (Same : ℕ → ℕ → Type 0) (number number' : ℕ → ℕ) (g h : Home)
    (tells : (i j : ℕ) → i < g.start → j < h.start → (number i ≡ number' j) ↔ Same i j) where
  to : (i j : ℕ) (b c : Bool) → nat_le g.start i ≡ b → nat_le h.start j ≡ c → (p q : ℕ)
      → target_by b p (number i) ≡ target_by c q (number' j)
      → SameTarget Same (target_by b p i) (target_by c q j)
  to i j true true d e p q same = let inner : p ≡ q = cc in inner
  to i j true false d e p q same = let off : Inside p ≡ Earlier (number' j) = same in cc
  to i j false true d e p q same = let off : Earlier (number i) ≡ Inside q = same in cc
  to i j false false d e p q same =
      let inner : number i ≡ number' j = cc in
      (tells i j (leb-false g.start i d) (leb-false h.start j e)).0 inner

  from : (i j : ℕ) (b c : Bool) → nat_le g.start i ≡ b → nat_le h.start j ≡ c → (p q : ℕ)
      → SameTarget Same (target_by b p i) (target_by c q j)
      → target_by b p (number i) ≡ target_by c q (number' j)
  from i j true true d e p q same = ap Inside same
  from i j true false d e p q same = absurd same
  from i j false true d e p q same = absurd same
  from i j false false d e p q same = ap Earlier ((tells i j (leb-false g.start i d) (leb-false h.start j e)).1 same)

  pub canonical-below : (canonical number g ≡ canonical number' h) ↔ SameGroup Same g h
  canonical-below = (
    (λ same. alike-becomes
        (λ r s. target number g.start r ≡ target number' h.start s)
        (λ r s. SameTarget Same (target (λ i. i) g.start r) (target (λ i. i) h.start s))
        (λ r s. to r s (nat_le g.start r) (nat_le h.start s) refl refl (r - g.start) (s - h.start)) g h
        (mapped-alike (plainly group_shape) (target number g.start) (target number' h.start) g.members h.members same)),
    (λ same. alike-mapped (plainly group_shape) (target number g.start) (target number' h.start) g.members h.members
        (alike-becomes
        (λ r s. SameTarget Same (target (λ i. i) g.start r) (target (λ i. i) h.start s))
        (λ r s. target number g.start r ≡ target number' h.start s)
        (λ r s. from r s (nat_le g.start r) (nat_le h.start s) refl refl (r - g.start) (s - h.start)) g h same)),
  )

pub canonical-same : (Same : ℕ → ℕ → Type 0) (number number' : ℕ → ℕ) → ((i j : ℕ) → (number i ≡ number' j) ↔ Same i j) → (g h : Home)
    → (canonical number g ≡ canonical number' h) ↔ SameGroup Same g h
canonical-same Same number number' tells g h = canonical-below Same number number' g h (λ i j before before'. tells i j)
