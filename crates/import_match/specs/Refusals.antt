-- When a call is refused.
use Rattle.std.specs.Prelude.{◌⊎◌, Result, IsErrOf}
use Rattle.import_match.specs.declared.error.LinkError.{LinkError}
use Rattle.import_match.specs.declared.error.LinkError.TheVariants as error

-- there is no memory for the result
abbrev pub IsOutOfMemory : {A : Type 0} → Result A LinkError → Type 0
IsOutOfMemory r = IsErrOf r error.OutOfMemory

-- a refusal occurs only where its cause holds, and where it holds, it occurs or there is no memory
pub record ComesExactly {A : Type 0} (r : Result A LinkError) (e : LinkError) (Cause : Type 0) : Type 0 where
  pub caused : IsErrOf r e → Cause
  pub comes : Cause → IsErrOf r e ⊎ IsOutOfMemory r
