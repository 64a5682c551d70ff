-- Whether a reader or a writer reports its bytes from the first, and what it reports.
use Rattle.std.specs.Prelude.{⊤, Bool, true, false, ℕ, List, Option, None, IsSome}

-- one that is said to report its bytes does
abbrev pub Tells : Bool → Option (List ℕ) → Type 0
Tells true told = IsSome told
Tells false told = ⊤

-- what is reported by one that is said to report its bytes; any other counts as one that reports
-- nothing, though it may begin to
abbrev pub told_if : Bool → Option (List ℕ) → Option (List ℕ)
told_if true told = told
told_if false told = None
