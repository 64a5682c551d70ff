-- Runtime data of passive segments, recorded by the segments' numbers.
use Rattle.std.proofs.Common.{◌≡◌, ℕ, suc, ◌+◌, ◌<◌, false, List, [], ◌∷◌, ◌++◌, length, map, get_or, refl, sym, ap, ◌∙◌, subst, arith, append_assoc, Option, Some}
use Rattle.std.proofs.lemmas.Bool.{eqb-false, ne_eqb}
use Rattle.std.proofs.lemmas.Map.Keys.{IsDistinct-head, IsDistinct-tail}
use Rattle.std.proofs.lemmas.List.{length_push, length-map, get_or-map}
use Rattle.std.specs.Prelude.{slice_get, nat_eq, All, Contains}
use Rattle.std.specs.List.{IsDistinct, AllByRecursion}
use Rattle.std.specs.Option.{option_map}
use Rattle.entity_map.specs.Secondary.{Defaulted, value_at, with_value}
use Rattle.entity_map.proofs.SecondaryLemmas.{value_at-with_value, value_at-with_value_elsewhere}
use Rattle.wasm_index.specs.declared.index.Index.{Index}
use Rattle.wasm_index.specs.declared.spaces.RuntimeDataSpace.{RuntimeDataSpace}
use Rattle.wasm_index.specs.Index.{number_of, index_of}
use Rattle.init_plan.specs.Views.{FindsInOrder}

-- a fact of a list's values holds of the value of each element
pub All-read_map : {X Y : Type 0} (f : X → Y) (P : Y → Type 0) (xs : List X) (i : ℕ) (d : X) → i < length xs → All P (map f xs)
    → P (f (get_or xs i d))
All-read_map f P xs i d within h = subst P (get_or-map f xs i d (f d) within) (h i (f d) (omega (arith, length-map xs f)))

-- ---- a map with the numbers from n on at keys

abbrev pub RuntimeDataMap : Type 0
RuntimeDataMap = Defaulted (Option (Index RuntimeDataSpace))

abbrev pub entered : ℕ → RuntimeDataMap → List ℕ → RuntimeDataMap
entered n m [] = m
entered n m (k ∷ ks) = entered (n + 1) (with_value m k (Some (index_of n))) ks

abbrev IsApart : ℕ → List ℕ → Type 0
IsApart q ks = AllByRecursion (λ k. nat_eq q k ≡ false) ks

entered-apart : (n : ℕ) (m : RuntimeDataMap) (ks : List ℕ) (q : ℕ) → IsApart q ks → value_at (entered n m ks) q ≡ value_at m q
entered-apart n m [] q apart = refl
entered-apart n m (k ∷ ks) q apart =
    let rest = entered-apart (n + 1) (with_value m k (Some (index_of n))) ks q apart.1 in
    rest ∙ value_at-with_value_elsewhere m k (Some (index_of n)) q (eqb-false q k apart.0)

IsApart-from_absent : (ks : List ℕ) (q : ℕ) → ¬ Contains ks q → IsApart q ks
IsApart-from_absent [] q absent = tt
IsApart-from_absent (k ∷ ks) q absent = (
  ne_eqb q k (λ e. absent (0, omega arith, sym e)),
  IsApart-from_absent ks q
      (λ c. absent (suc c.0, (let h = c.1 in omega arith), c.2)),
)

-- where no key is q, the map is as it was
pub entered-others : (n : ℕ) (m : RuntimeDataMap) (ks : List ℕ) (q : ℕ) → ¬ Contains ks q → value_at (entered n m ks) q ≡ value_at m q
entered-others n m ks q absent = entered-apart n m ks q (IsApart-from_absent ks q absent)

-- ---- segments whose bytes follow those of earlier data

get-middle : {X : Type 0} (before after : List X) (x : X) → slice_get (before ++ x ∷ after) (length before) ≡ Some x
get-middle [] after x = refl
get-middle (b ∷ before) after x = get-middle before after x

-- each segment is found with its bytes, in order from the end of the earlier data on
pub entered-found : (before : List (List ℕ)) (n : ℕ) (m : RuntimeDataMap) (ps : List (ℕ × List ℕ)) → n ≡ length before
    → IsDistinct nat_eq (map (λ p. p.0) ps)
    → FindsInOrder (before ++ map (λ p. p.1) ps) (λ k. option_map number_of (value_at (entered n m (map (λ p. p.0) ps)) k)) n ps
entered-found before n m [] at distinct = tt
entered-found before n m (p ∷ ps) at distinct =
    let ks : List ℕ = map (λ p. p.0) ps in
    let m' : RuntimeDataMap = with_value m p.0 (Some (index_of n)) in
    let entry : value_at (entered (n + 1) m' ks) p.0 ≡ Some (index_of n) = entered-apart (n + 1) m' ks p.0 (IsDistinct-head nat_eq p.0 ks distinct)
    ∙ value_at-with_value m p.0 (Some (index_of n)) in
    let here : slice_get (before ++ p.1 ∷ map (λ p. p.1) ps) n ≡ Some p.1 = rw at (get-middle before (map (λ p. p.1) ps) p.1) in
    let rest = entered-found (before ++ p.1 ∷ []) (n + 1) m' ps (omega (arith, at, length_push before p.1)) (IsDistinct-tail nat_eq p.0 ks distinct) in
    (ap (option_map number_of) entry, here, rw append_assoc at rest)
