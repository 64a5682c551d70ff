-- A builder that is not poisoned reports that there is no memory.
use Rattle.std.proofs.Common.{◌≡◌, refl}
use Rattle.module_types.specs.declared.error.BuildError.{BuildError}
use Rattle.module_types.specs.declared.error.BuildError.TheVariants as build

pub no-memory : (e : BuildError) → (e ≡ build.Poisoned → ⊥) → e ≡ build.OutOfMemory
no-memory build.OutOfMemory sound = refl
no-memory build.Poisoned sound = absurd (sound refl)
