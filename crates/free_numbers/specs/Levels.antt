-- Counts, the sums of adjacent counts, the sums of those, and so on.
use Rattle.std.specs.Prelude.{◌≡◌, ◌≤◌, ◌<◌, ℕ, zero, suc, List, [], ◌∷◌, length, map, get_or, ◌+◌, ⊤}
use Rattle.std.specs.Global.{Vec}
use Rattle.free_numbers.specs.Counts.{total, pair_sums, change_at}

abbrev pub lists_of : List (Vec ℕ) → List (List ℕ)
lists_of vs = map (λ (v : Vec ℕ). v.items) vs

abbrev pub counts_of : List (List ℕ) → List ℕ
counts_of [] = []
counts_of (xs ∷ ls) = xs

-- each level has the sums of the level before
abbrev pub IsChain : List (List ℕ) → Type 0
IsChain [] = ⊤
IsChain (xs ∷ []) = ⊤
IsChain (xs ∷ ys ∷ ls) = (ys ≡ pair_sums xs) × IsChain (ys ∷ ls)

-- the same, and the last level has at most one count
abbrev pub IsTree : List (List ℕ) → Type 0
IsTree [] = ⊤
IsTree (xs ∷ []) = length xs ≤ 1
IsTree (xs ∷ ys ∷ ls) = (ys ≡ pair_sums xs) × IsTree (ys ∷ ls)

abbrev pub half : ℕ → ℕ
half zero = zero
half (suc zero) = zero
half (suc (suc n)) = suc (half n)

-- the count of a number changes, and each sum with it
abbrev pub changed : ℕ → ℕ → ℕ → List (List ℕ) → List (List ℕ)
changed less more n [] = []
changed less more n (xs ∷ ls) = change_at less more n xs ∷ changed less more (half n) ls

-- `less` can be subtracted from a count, and `more` added
abbrev pub CanChange : ℕ → ℕ → ℕ → List ℕ → Type 0
CanChange less more n xs = (n < length xs) × (less ≤ get_or xs n 0) × (total xs + more < 4294967296)

abbrev pub CanChangeFirst : ℕ → ℕ → ℕ → List (List ℕ) → Type 0
CanChangeFirst less more n [] = ⊤
CanChangeFirst less more n (xs ∷ ls) = CanChange less more n xs
