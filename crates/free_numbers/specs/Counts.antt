-- Counts, their sums, and the sums of adjacent counts.
use Rattle.std.specs.Prelude.{◌≤◌, ⊤, ℕ, suc, zero, ◌+◌, ◌-◌, List, [], ◌∷◌, get_or, set}

abbrev pub total : List ℕ → ℕ
total [] = 0
total (x ∷ xs) = x + total xs

-- the sum of the counts before a position
abbrev pub before : ℕ → List ℕ → ℕ
before zero xs = 0
before (suc p) [] = 0
before (suc p) (x ∷ xs) = x + before p xs

-- the sums of the first and second, the third and fourth, and so on
abbrev pub pair_sums : List ℕ → List ℕ
pair_sums [] = []
pair_sums (x ∷ []) = x ∷ []
pair_sums (x ∷ y ∷ xs) = (x + y) ∷ pair_sums xs

-- `less` is subtracted and `more` is added at a position
abbrev pub change_at : ℕ → ℕ → ℕ → List ℕ → List ℕ
change_at less more p xs = set xs p (get_or xs p 0 - less + more)

-- each is 0 or 1
abbrev pub IsCounts : List ℕ → Type 0
IsCounts [] = ⊤
IsCounts (x ∷ xs) = (x ≤ 1) × IsCounts xs
