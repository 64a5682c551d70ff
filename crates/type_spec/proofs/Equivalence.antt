-- Equality of types is an equivalence, and does not depend on how far down it is followed.
use Rattle.std.proofs.Common.{◌≡◌, ◌∙◌, ◌<◌, ◌≤◌, ℕ, zero, suc, ◌+◌, ◌-◌, Bool, true, false, List, [], ◌∷◌, length, refl, sym, ap, arith}
use Rattle.std.specs.Prelude.{nat_le, nat_lt, if◌then◌else◌}
use Rattle.std.specs.List.{AllZip}
use Rattle.std.proofs.lemmas.Bool.{ltb-false, leb-false}
use Rattle.std.proofs.lemmas.List.{length-map}
use Rattle.wasm_spec.specs.TypeData.{Group}
use Rattle.type_spec.specs.TypeShapes.{group_shape}
use Rattle.type_spec.specs.Names.{plainly, zip-becomes}
use Rattle.type_spec.specs.Equality.{Target, Inside, Earlier, target, target_by, Home, home_from, home, SameTarget, SameGroup, SameDown, SameType}

-- ---- lists one by one

zip-turned : {A B : Type 0} (p : A → B → Type 0) (q : B → A → Type 0) → ((a : A) (b : B) → p a b → q b a) → (xs : List A) (ys : List B)
    → AllZip p xs ys → AllZip q ys xs
zip-turned p q each [] [] all = tt
zip-turned p q each [] (y ∷ ys) all = absurd all
zip-turned p q each (x ∷ xs) [] all = absurd all
zip-turned p q each (x ∷ xs) (y ∷ ys) all = (each x y all.0, zip-turned p q each xs ys all.1)

zip-chained : {A B C : Type 0} (p : A → B → Type 0) (q : B → C → Type 0) (r : A → C → Type 0)
    → ((a : A) (b : B) (c : C) → p a b → q b c → r a c) → (xs : List A) (ys : List B) (zs : List C)
    → AllZip p xs ys → AllZip q ys zs → AllZip r xs zs
zip-chained p q r each [] [] [] first second = tt
zip-chained p q r each [] [] (z ∷ zs) first second = absurd second
zip-chained p q r each [] (y ∷ ys) zs first second = absurd first
zip-chained p q r each (x ∷ xs) [] zs first second = absurd first
zip-chained p q r each (x ∷ xs) (y ∷ ys) [] first second = absurd second
zip-chained p q r each (x ∷ xs) (y ∷ ys) (z ∷ zs) first second =
    (each x y z first.0 second.0, zip-chained p q r each xs ys zs first.1 second.1)

zip-itself : {A : Type 0} (p : A → A → Type 0) → ((a : A) → p a a) → (xs : List A) → AllZip p xs xs
zip-itself p each [] = tt
zip-itself p each (x ∷ xs) = (each x, zip-itself p each xs)

-- ---- where a group starts

home-either : (b : Bool) (g h : Home) (i : ℕ) → g.start ≤ i → (b ≡ false → h.start ≤ i) → (if b then g else h).start ≤ i
home-either true g h i first second = first
home-either false g h i first second = second refl

home-from-start : (start : ℕ) (gs : List (Group ℕ ℕ)) (i : ℕ) → start ≤ i → (home_from start gs i).start ≤ i
home-from-start start [] i h = h
home-from-start start (g ∷ gs) i h =
    home-either (nat_lt i (start + length g)) (record { start = start; members = g }) (home_from (start + length g) gs i) i h
    (λ e. home-from-start (start + length g) gs i (omega (arith, ltb-false i (start + length g) e)))

pub home-start : (gs : List (Group ℕ ℕ)) (i : ℕ) → (home gs i).start ≤ i
home-start gs i = home-from-start 0 gs i (omega arith)

-- ---- references

target-turned : (P Q : ℕ → ℕ → Type 0) → ((i j : ℕ) → P i j → Q j i) → (t u : Target ℕ) → SameTarget P t u → SameTarget Q u t
target-turned P Q each (Inside p) (Inside q) e = sym e
target-turned P Q each (Earlier a) (Earlier b) e = each a b e
target-turned P Q each (Inside p) (Earlier b) e = absurd e
target-turned P Q each (Earlier a) (Inside q) e = absurd e

target-chained : (P Q R : ℕ → ℕ → Type 0) → ((i j k : ℕ) → P i j → Q j k → R i k) → (t u v : Target ℕ)
    → SameTarget P t u → SameTarget Q u v → SameTarget R t v
target-chained P Q R each (Inside p) (Inside q) (Inside r) d e = d ∙ e
target-chained P Q R each (Earlier a) (Earlier b) (Earlier c) d e = each a b c d e
target-chained P Q R each (Inside p) (Inside q) (Earlier c) d e = absurd e
target-chained P Q R each (Inside p) (Earlier b) v d e = absurd d
target-chained P Q R each (Earlier a) (Inside q) v d e = absurd d
target-chained P Q R each (Earlier a) (Earlier b) (Inside r) d e = absurd e

-- an earlier type is before the group
target-smaller : (P Q : ℕ → ℕ → Type 0) (g h r s : ℕ) → (r < g → P r s → Q r s) → (b c : Bool) → nat_le g r ≡ b
    → SameTarget P (target_by b (r - g) r) (target_by c (s - h) s) → SameTarget Q (target_by b (r - g) r) (target_by c (s - h) s)
target-smaller P Q g h r s each true true is e = e
target-smaller P Q g h r s each true false is e = absurd e
target-smaller P Q g h r s each false true is e = absurd e
target-smaller P Q g h r s each false false is e = each (omega (arith, leb-false g r is)) e

target-itself : (P : ℕ → ℕ → Type 0) (g r : ℕ) → (r < g → P r r) → (b : Bool) → nat_le g r ≡ b
    → SameTarget P (target_by b (r - g) r) (target_by b (r - g) r)
target-itself P g r each true is = refl
target-itself P g r each false is = each (omega (arith, leb-false g r is))

-- ---- groups

abbrev Between : (ℕ → ℕ → Type 0) → Home → Home → ℕ → ℕ → Type 0
Between P g h r s = SameTarget P (target (λ i. i) g.start r) (target (λ i. i) h.start s)

abbrev edges : Home → List ℕ
edges g = (plainly group_shape).edges g.members

group-turned : (P Q : ℕ → ℕ → Type 0) → ((i j : ℕ) → P i j → Q j i) → (g h : Home) → SameGroup P g h → SameGroup Q h g
group-turned P Q each g h a = record {
  frames = sym a.frames;
  edges = zip-turned (Between P g h) (Between Q h g) (λ r s e. target-turned P Q each (target (λ i. i) g.start r) (target (λ i. i) h.start s) e)
      (edges g) (edges h) a.edges;
}

group-chained : (P Q R : ℕ → ℕ → Type 0) → ((i j k : ℕ) → P i j → Q j k → R i k) → (g h l : Home) → SameGroup P g h → SameGroup Q h l
    → SameGroup R g l
group-chained P Q R each g h l a b = record {
  frames = a.frames ∙ b.frames;
  edges = zip-chained (Between P g h) (Between Q h l) (Between R g l)
      (λ r s t d e. target-chained P Q R each (target (λ i. i) g.start r) (target (λ i. i) h.start s) (target (λ i. i) l.start t) d e)
      (edges g) (edges h) (edges l) a.edges b.edges;
}

group-smaller : (P Q : ℕ → ℕ → Type 0) (g h : Home) → ((r s : ℕ) → r < g.start → P r s → Q r s) → SameGroup P g h → SameGroup Q g h
group-smaller P Q g h each a = record {
  frames = a.frames;
  edges = zip-becomes (plainly group_shape) (Between P g h) (Between Q g h)
      (λ r s e. target-smaller P Q g.start h.start r s (each r s) (nat_le g.start r) (nat_le h.start s) refl e) (edges g) (edges h) a.edges;
}

group-itself : (P : ℕ → ℕ → Type 0) (g : Home) → ((r : ℕ) → r < g.start → P r r) → SameGroup P g g
group-itself P g each = record {
  frames = refl;
  edges = zip-itself (Between P g g) (λ r. target-itself P g.start r (each r) (nat_le g.start r) refl) (edges g);
}

-- ---- types

down-fuel : (d e : ℕ) (ms ns : List (Group ℕ ℕ)) (i j : ℕ) → i < e → SameDown d ms ns i j → SameDown e ms ns i j
down-fuel zero e ms ns i j h x = absurd x
down-fuel (suc d) zero ms ns i j h x = absurd (omega arith)
down-fuel (suc d) (suc e) ms ns i j h x = (
  x.0,
  group-smaller (λ r s. SameDown d ms ns r s) (λ r s. SameDown e ms ns r s) (home ms i) (home ns j)
      (λ r s before y. down-fuel d e ms ns r s (omega (arith, before, home-start ms i, h)) y) x.1,
)

down-turned : (d : ℕ) (ms ns : List (Group ℕ ℕ)) (i j : ℕ) → SameDown d ms ns i j → SameDown d ns ms j i
down-turned zero ms ns i j x = absurd x
down-turned (suc d) ms ns i j x =
    (sym x.0, group-turned (λ r s. SameDown d ms ns r s) (λ r s. SameDown d ns ms r s) (λ r s y. down-turned d ms ns r s y) (home ms i) (home ns j) x.1)

down-chained : (d : ℕ) (ms ns ls : List (Group ℕ ℕ)) (i j k : ℕ) → SameDown d ms ns i j → SameDown d ns ls j k → SameDown d ms ls i k
down-chained zero ms ns ls i j k x y = absurd x
down-chained (suc d) ms ns ls i j k x y = (
  x.0 ∙ y.0,
  group-chained (λ r s. SameDown d ms ns r s) (λ r s. SameDown d ns ls r s) (λ r s. SameDown d ms ls r s)
      (λ r s t a b. down-chained d ms ns ls r s t a b) (home ms i) (home ns j) (home ls k) x.1 y.1,
)

down-itself : (d : ℕ) (ms : List (Group ℕ ℕ)) (i : ℕ) → i < d → SameDown d ms ms i i
down-itself zero ms i h = absurd (omega arith)
down-itself (suc d) ms i h =
    (refl, group-itself (λ r s. SameDown d ms ms r s) (home ms i) (λ r before. down-itself d ms r (omega (arith, before, home-start ms i, h))))

pub type-itself : (ms : List (Group ℕ ℕ)) (i : ℕ) → SameType ms ms i i
type-itself ms i = down-itself (suc i) ms i (omega arith)

pub type-turned : (ms ns : List (Group ℕ ℕ)) (i j : ℕ) → SameType ms ns i j → SameType ns ms j i
type-turned ms ns i j x = down-fuel (suc i) (suc j) ns ms j i (omega arith) (down-turned (suc i) ms ns i j x)

pub type-chained : (ms ns ls : List (Group ℕ ℕ)) (i j k : ℕ) → SameType ms ns i j → SameType ns ls j k → SameType ms ls i k
type-chained ms ns ls i j k x y =
    let d = suc (i + j) in
    down-fuel d (suc i) ms ls i k (omega arith)
    (down-chained d ms ns ls i j k (down-fuel (suc i) d ms ns i j (omega arith) x) (down-fuel (suc j) d ns ls j k (omega arith) y))

-- a type's own position is a sufficient depth
pub type-deep : (d : ℕ) (ms ns : List (Group ℕ ℕ)) (i j : ℕ) → SameDown d ms ns i j → SameType ms ns i j
type-deep d ms ns i j x = down-fuel d (suc i) ms ns i j (omega arith) x

-- ---- types in equal groups

abbrev TypeSame : List (Group ℕ ℕ) → List (Group ℕ ℕ) → ℕ → ℕ → Type 0
TypeSame ms ns r s = SameType ms ns r s

-- equal types are in equal groups
pub type-groups : (ms ns : List (Group ℕ ℕ)) (i j : ℕ) → SameType ms ns i j → SameGroup (TypeSame ms ns) (home ms i) (home ns j)
type-groups ms ns i j x =
    group-smaller (λ r s. SameDown i ms ns r s) (TypeSame ms ns) (home ms i) (home ns j) (λ r s before y. type-deep i ms ns r s y) x.1

-- types at one position of equal groups are equal
pub groups-type : (ms ns : List (Group ℕ ℕ)) (i j : ℕ) → i - (home ms i).start ≡ j - (home ns j).start
    → SameGroup (TypeSame ms ns) (home ms i) (home ns j) → SameType ms ns i j
groups-type ms ns i j at x = (
  at,
  group-smaller (TypeSame ms ns) (λ r s. SameDown i ms ns r s) (home ms i) (home ns j)
      (λ r s before y. down-fuel (suc r) i ms ns r s (omega (arith, before, home-start ms i)) y) x,
)

-- equal groups are equally long
pub groups-long : (P : ℕ → ℕ → Type 0) (g h : Home) → SameGroup P g h → length g.members ≡ length h.members
groups-long P g h x = sym (length-map g.members _) ∙ ap length x.frames ∙ length-map h.members _

-- types at equal positions of the groups of equal types are equal
pub type-beside : (ms ns : List (Group ℕ ℕ)) (i j k l : ℕ) → SameType ms ns i j → home ms k ≡ home ms i → home ns l ≡ home ns j
    → k - (home ms k).start ≡ l - (home ns l).start → SameType ms ns k l
type-beside ms ns i j k l x left right at =
    groups-type ms ns k l at (coe 0 1 (t. SameGroup (TypeSame ms ns) (sym left t) (sym right t)) (type-groups ms ns i j x))
