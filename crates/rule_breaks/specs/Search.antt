-- The first entry of a list that lacks a property.
use Rattle.std.specs.Prelude.{ℕ, ◌<◌, List, length, take, All, Option, Some, None, IfSome, slice_get}

-- the entry is the first of a list that lacks a property
pub record IsFirstWithout {A : Type 0} (P : A → Type 0) (xs : List A) (entry : ℕ) : Type 0 where
  pub before : All P (take entry xs)
  pub listed : entry < length xs
  pub lacks : IfSome (slice_get xs entry) (λ x. ¬ P x)

-- the first entry that lacks a property, or none where all have it
abbrev pub Finds : {A : Type 0} → (A → Type 0) → List A → Option ℕ → Type 0
Finds P xs None = All P xs
Finds P xs (Some entry) = IsFirstWithout P xs entry
