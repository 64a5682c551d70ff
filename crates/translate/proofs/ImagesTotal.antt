-- The images of a plan have in sum at most twice the bytes of the segments, and for each defined
-- memory the extent that is always made and two pages.
use Rattle.std.proofs.Common.{◌≡◌, ◌≤◌, ◌<◌, ◌+◌, ◌-◌, ◌*◌, ◌==◌, ◌&&◌, ◌⊎◌, ℕ, zero, suc, List, [], ◌∷◌, length, Bool, true, false, cond, if◌then◌else◌, Option, Some, None, sum_by, slice_get, nat_le, nat_lt, max, refl, ap, subst, arith}
use Rattle.std.specs.List.{filter}
use Rattle.std.proofs.Math.Logic.{⊎_elim}
use Rattle.std.proofs.lemmas.Bool.{cases_lt}
use Rattle.std.proofs.lemmas.Bool.Decides.{nat_tests}
use Rattle.std.proofs.lemmas.List.Sums.{sum_by-cons}
use Rattle.std.proofs.Math.Nat.{suc-mul}
use Rattle.replay_spec.specs.Data.{ActiveSegment}
use Rattle.replay_spec.specs.Images.{MemoryImage, image_bytes, bytes_on, data_size}

abbrev size : ActiveSegment → ℕ
size s = length s.bytes

-- what a segment has on a memory, and what it has on a memory or a later one
abbrev on : ℕ → ActiveSegment → ℕ
on k s = if s.memory == k then length s.bytes else 0

abbrev from : ℕ → ActiveSegment → ℕ
from k s = if nat_le k s.memory then length s.bytes else 0

here-or-later : (k n bytes : ℕ) → (if n == k then bytes else 0) + (if nat_le (suc k) n then bytes else 0) ≡ (if nat_le k n then bytes else 0)
here-or-later k n bytes = grind (arith, nat_tests)

from-next : (k : ℕ) (ss : List ActiveSegment) → sum_by (on k) ss + sum_by (from (suc k)) ss ≡ sum_by (from k) ss
from-next k [] = refl
from-next k (s ∷ ss) =
    let others = from-next k ss in
    let one = here-or-later k s.memory (length s.bytes) in
    omega (arith, others, one, sum_by-cons (on k) s ss, sum_by-cons (from (suc k)) s ss, sum_by-cons (from k) s ss)

from-one : (k : ℕ) (s : ActiveSegment) → from k s ≤ length s.bytes
from-one k s = grind (arith, nat_tests)

from-all : (k : ℕ) (ss : List ActiveSegment) → sum_by (from k) ss ≤ data_size ss
from-all k [] = omega arith
from-all k (s ∷ ss) =
    let others = from-all k ss in
    let one = from-one k s in
    omega (arith, others, one, sum_by-cons (from k) s ss, sum_by-cons size s ss)

on-all : (k : ℕ) (ss : List ActiveSegment) → data_size (bytes_on k ss) ≤ sum_by (on k) ss
on-all k [] = omega arith
on-all k (s ∷ ss) = by (s.memory == k) (nat_lt 0 (length s.bytes)) (sum_by-cons (on k) s ss) (on-all k ss) where
  by : (here some : Bool) → sum_by (on k) (s ∷ ss) ≡ (if here then length s.bytes else 0) + sum_by (on k) ss
      → data_size (bytes_on k ss) ≤ sum_by (on k) ss
      → data_size (cond (here && some) (s ∷ bytes_on k ss) (bytes_on k ss)) ≤ sum_by (on k) (s ∷ ss)
  by true true e others = omega (arith, others, e, sum_by-cons size s (bytes_on k ss))
  by true false e others = omega (arith, others, e)
  by false some e others = omega (arith, others, e)

-- ---- images from a memory on, where each is bounded by the segments on its memory, and imported
-- memories have none

module _ (imports most : ℕ) (active : List ActiveSegment) where
  -- the image of a memory is bounded, and the memory is a defined one
  abbrev IsBounded : ℕ → MemoryImage → Type 0
  IsBounded k image = (imports ≤ k) × (length image.bytes ≤ 2 * data_size (bytes_on k active) + most)

  -- so many memories remain, of which so many are defined
  pub images-from : (k left : ℕ) (xs : List (Option MemoryImage)) → length xs ≡ (imports - k) + left
      → ((j : ℕ) (image : MemoryImage) → slice_get xs j ≡ Some (Some image) → IsBounded (k + j) image)
      → sum_by length (image_bytes xs) ≤ 2 * sum_by (from k) active + left * most
  images-from k left [] n each = omega arith
  images-from k left (x ∷ xs) n each =
      with_first x refl (λ (low : k < imports). images-from (suc k) left xs (omega (arith, n, low)) later)
      (λ (high : imports ≤ k). images-from (suc k) (length xs) xs (omega (arith, high)) later) where
        later : (j : ℕ) (image : MemoryImage) → slice_get xs j ≡ Some (Some image) → IsBounded (suc k + j) image
        later j image is = let same : k + suc j ≡ suc k + j = omega arith in subst (λ (m : ℕ). IsBounded m image) same (each (suc j) image is)

        rest : ℕ → Type 0
        rest left = sum_by length (image_bytes xs) ≤ 2 * sum_by (from (suc k)) active + left * most

        -- the first is of a defined memory
        defined : imports ≤ k → rest (length xs) → sum_by length (image_bytes xs) + most ≤ 2 * sum_by (from (suc k)) active + left * most
        defined high others =
            let one : left ≡ suc (length xs) = omega (arith, n, high) in
            omega (arith, others, ap (λ l. l * most) one, suc-mul (length xs) most)

        with_first : (y : Option MemoryImage) → x ≡ y → (k < imports → rest left) → (imports ≤ k → rest (length xs))
            → sum_by length (image_bytes (y ∷ xs)) ≤ 2 * sum_by (from k) active + left * most
        with_first None e imported above =
            ⊎_elim (λ (low : k < imports). let others = imported low in omega (arith, others, from-next k active))
            (λ (high : imports ≤ k). let others = defined high (above high) in omega (arith, others, from-next k active)) (cases_lt k imports)
        with_first (Some image) e imported above =
            let same : k + 0 ≡ k = omega arith in
            let b = subst (λ (m : ℕ). IsBounded m image) same (each 0 image (ap Some e)) in
            let high : imports ≤ k = omega (arith, b.0) in
            let others = defined high (above high) in
            let o = on-all k active in
            omega (arith, b.1, others, o, from-next k active, sum_by-cons (λ (bytes : List ℕ). length bytes) image.bytes (image_bytes xs))

  -- all memories
  pub images-total : (memories : ℕ) (xs : List (Option MemoryImage)) → length xs ≡ imports + memories
      → ((j : ℕ) (image : MemoryImage) → slice_get xs j ≡ Some (Some image) → IsBounded j image)
      → sum_by length (image_bytes xs) ≤ 2 * data_size active + memories * most
  images-total memories xs n each =
      let all = images-from 0 memories xs (omega (arith, n)) (λ j image is. let same : j ≡ 0 + j = omega arith in subst (λ (m : ℕ). IsBounded m image) same (each j image is)) in
      omega (arith, all, from-all 0 active)
