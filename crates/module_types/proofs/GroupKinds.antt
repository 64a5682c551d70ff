-- The kinds of the types of a group.
use Rattle.std.proofs.Common.{◌≡◌, ◌∙◌, ◌<◌, ℕ, zero, suc, ◌+◌, List, [], ◌∷◌, ◌++◌, length, take, drop, get_or, map, refl, sym, ap, arith}
use Rattle.std.proofs.lemmas.List.{length-map, drop_at, take_at}
use Rattle.wasm_spec.specs.TypeData.{SubType, Composite, map_composite, map_group}
use Rattle.type_spec.specs.Names.{NameKind}
use Rattle.type_spec.specs.Interned.{kind_of_type}
use Rattle.module_types.specs.Conversion.{kinds_of}

-- replacing names keeps the kind of a type
pub kind-mapped : {H I R S : Type 0} (h : H → I) (f : R → S) (c : Composite H R) → kind_of_type (map_composite h f c) ≡ kind_of_type c
kind-mapped h f c = grind arith

pub kinds-mapped : {H I R S : Type 0} (h : H → I) (f : R → S) (ts : List (SubType H R)) → kinds_of (map_group h f ts) ≡ kinds_of ts
kinds-mapped h f [] = refl
kinds-mapped h f (t ∷ ts) = λ i. kind-mapped h f t.composite.inner i ∷ kinds-mapped h f ts i

-- lists of the same kinds have the same length
pub same-long : {H I R S : Type 0} (ts : List (SubType H R)) (us : List (SubType I S)) → kinds_of ts ≡ kinds_of us → length ts ≡ length us
same-long {H} {I} {R} {S} ts us same =
    sym (length-map ts (λ (t : SubType H R). kind_of_type t.composite.inner)) ∙ ap length same
    ∙ length-map us (λ (t : SubType I S). kind_of_type t.composite.inner)

-- types in a list remain in it where others are appended
pub taken-on : {X : Type 0} (n start : ℕ) (xs ys : List X) → length (take n (drop start xs)) ≡ n → take n (drop start (xs ++ ys)) ≡ take n (drop start xs)
taken-on zero start xs ys there = refl
taken-on (suc n) zero [] ys there = absurd (omega (arith, there))
taken-on (suc n) zero (x ∷ xs) ys there = ap (λ zs. x ∷ zs) (taken-on n zero xs ys (omega (arith, there)))
taken-on (suc n) (suc start) [] ys there = absurd (omega (arith, there))
taken-on (suc n) (suc start) (x ∷ xs) ys there = taken-on (suc n) start xs ys there

-- what follows a list
pub taken-behind : {X : Type 0} (n : ℕ) (xs ys zs : List X) → length ys ≡ n → take n (drop (length xs) (xs ++ (ys ++ zs))) ≡ ys
taken-behind n xs ys zs long = grind (arith, drop_at, take_at)
