-- Which definition each import is given, or which import fails first, and why (core specification,
-- 4.7, instantiation).
use Rattle.std.specs.Prelude.{◌≡◌, ◌<◌, ◌⊎◌, ℕ, List, [], ◌∷◌, map, slice_get, Option, Some, None, Result, Ok, Err, IsSomeAnd}
use Rattle.std.specs.Global.{Global}
use Rattle.std.specs.List.{enumerate_from, AllZip}
use Rattle.std.specs.declared.vec.Vec.{Vec}
use Rattle.wasm_types.specs.declared.entity.EntityType.{EntityType}
use Rattle.import_match.specs.declared.error.LinkError.{LinkError}
use Rattle.import_match.specs.declared.error.LinkError.TheVariants as error
use Rattle.import_match.specs.declared.error.Mismatch.{Mismatch}
use Rattle.import_match.specs.Refusals.{IsOutOfMemory}
use Rattle.import_match.specs.Rules.{mismatch}
use Rattle.import_match.specs.Definitions.{Definition, found}

-- ---- one import

-- a definition that was found matches, or breaks a rule
abbrev pub judged : ℕ → ℕ → Option Mismatch → Result ℕ LinkError
judged i number None = Ok number
judged i number (Some rule) = Err (error.Mismatch i rule)

-- the import at a position, and what is defined under its names
abbrev pub answer_at : ℕ → EntityType → Option (ℕ × EntityType) → Result ℕ LinkError
answer_at i want None = Err (error.Missing i)
answer_at i want (Some have) = judged i have.0 (mismatch have.1 want)

abbrev pub answer_to : List Definition → ℕ × Definition → Result ℕ LinkError
answer_to ds want = answer_at want.0 want.1.1 (found ds want.1.0)

-- ---- all imports

-- the result for each import
abbrev pub answers : List Definition → List Definition → List (Result ℕ LinkError)
answers ds wants = map (answer_to ds) (enumerate_from 0 wants)

-- a value before others
abbrev pub with_value : {A E : Type 0} → A → Result (List A) E → Result (List A) E
with_value x (Ok xs) = Ok (x ∷ xs)
with_value x (Err e) = Err e

-- all values, or the first error
abbrev pub all_values : {A E : Type 0} → List (Result A E) → Result (List A) E
all_values [] = Ok []
all_values (Ok x ∷ rs) = with_value x (all_values rs)
all_values (Err e ∷ rs) = Err e

-- the number of the definition of each import, or why the first fails that fails
abbrev pub resolved : List Definition → List Definition → Result (List ℕ) LinkError
resolved ds wants = all_values (answers ds wants)

-- the result of a call, as such a value
abbrev pub numbers_of : Result (Vec ℕ Global) LinkError → Result (List ℕ) LinkError
numbers_of (Ok numbers) = Ok numbers.items
numbers_of (Err e) = Err e

-- it is the result, unless there is no memory
abbrev pub IsAnswer : Result (Vec ℕ Global) LinkError → Result (List ℕ) LinkError → Type 0
IsAnswer r answer = IsOutOfMemory r ⊎ (numbers_of r ≡ answer)

-- it is the result for the import at a position, unless there is no memory
abbrev pub IsAnswerAt : Result ℕ LinkError → List Definition → List Definition → ℕ → Type 0
IsAnswerAt r ds wants i = IsOutOfMemory r ⊎ (slice_get (answers ds wants) i ≡ Some r)

-- ---- why an import fails

-- a definition is under the names of the import, and matches it
abbrev pub IsMatched : List Definition → Definition → Type 0
IsMatched ds want = IsSomeAnd (found ds want.0) (λ (have : ℕ × EntityType). mismatch have.1 want.1 ≡ None)

-- the one under the names of the import has the number, and matches
abbrev pub IsGiven : List Definition → Definition → ℕ → Type 0
IsGiven ds want number = IsSomeAnd (found ds want.0) (λ (have : ℕ × EntityType). (have.0 ≡ number) × (mismatch have.1 want.1 ≡ None))

-- the import at a position, where all before it are matched
pub record IsReached (ds wants : List Definition) (i : ℕ) (want : Definition) : Type 0 where
  pub at : slice_get wants i ≡ Some want
  pub before : (j : ℕ) (other : Definition) → j < i → slice_get wants j ≡ Some other → IsMatched ds other

-- the import at a position is the first that fails, and nothing is defined under its names
pub record IsMissing (ds wants : List Definition) (i : ℕ) : Type 0 where
  pub want : Definition
  pub reached : IsReached ds wants i want
  pub missing : found ds want.0 ≡ None

-- the import at a position is the first that fails, and what is defined under its names breaks a
-- rule, the first in the table
pub record IsMismatched (ds wants : List Definition) (i : ℕ) (rule : Mismatch) : Type 0 where
  pub want : Definition
  pub reached : IsReached ds wants i want
  pub broken : IsSomeAnd (found ds want.0) (λ (have : ℕ × EntityType). mismatch have.1 want.1 ≡ Some rule)

-- each import has a definition that matches it
abbrev pub AreMatched : List Definition → List Definition → Type 0
AreMatched ds wants = (i : ℕ) (want : Definition) → slice_get wants i ≡ Some want → IsMatched ds want

-- each import, in order, is given the definition under its names
abbrev pub AreGiven : List Definition → List Definition → List ℕ → Type 0
AreGiven ds wants numbers = AllZip (IsGiven ds) wants numbers
