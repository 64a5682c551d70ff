-- The items of a list, each where it first occurs.
use Rattle.std.specs.Prelude.{ℕ, ◌==◌, Bool, List, [], ◌∷◌, ◌++◌, if◌then◌else◌}
use Rattle.std.specs.List.{fold, list_any}

-- an item comes after others, unless one of them is the same
abbrev pub with_first : {A : Type 0} → (A → A → Bool) → List A → A → List A
with_first same known x = if list_any (λ k. same k x) known then known else known ++ x ∷ []

-- the items of a list in order, without those that are the same as an earlier one
abbrev pub firsts_by : {A : Type 0} → (A → A → Bool) → List A → List A
firsts_by same xs = fold (with_first same) [] xs

-- the same of numbers; after those that are known already
abbrev pub firsts : List ℕ → List ℕ
firsts ns = firsts_by (λ k n. k == n) ns

abbrev pub firsts_after : List ℕ → List ℕ → List ℕ
firsts_after known ns = fold (with_first (λ k n. k == n)) known ns
