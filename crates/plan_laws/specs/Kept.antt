-- What the types of a plan keep: the entries of a map stand in the order of their keys, and
-- integers have the bits of their types.
use Rattle.std.specs.Prelude.{◌<◌, ℕ, All, List, [], ◌∷◌, map}
use Rattle.std.specs.Int.{w32, w64}
use Rattle.std.specs.Int.RustNames.{FitsSigned}
use Rattle.wasm_convert.specs.declared.values.GlobalConstValue.{GlobalConstValue}
use Rattle.wasm_convert.specs.declared.values.GlobalConstValue.TheVariants.{I32, I64}
use Rattle.module_customs.specs.Names.{named}
use Rattle.plan_text.specs.declared.plan.Plan.{Plan}
use Rattle.plan_laws.specs.Same.{local_names, locals_named}

-- a number is below each key
abbrev pub IsBelowAll : {V : Type 0} → ℕ → List (ℕ × V) → Type 0
IsBelowAll n [] = Unit {0}
IsBelowAll n (x ∷ xs) = (n < x.0) × IsBelowAll n xs

-- each key is below those after it
abbrev pub Rises : {V : Type 0} → List (ℕ × V) → Type 0
Rises [] = Unit {0}
Rises (x ∷ xs) = IsBelowAll x.0 xs × Rises xs

-- integers are those of 32 and of 64 bits
abbrev pub IsSized : GlobalConstValue → Type 0
IsSized (I32 n) = FitsSigned w32 n
IsSized (I64 n) = FitsSigned w64 n
IsSized value = Unit {0}

-- names are in the order of their functions and locals, and known values of globals are integers
-- of their bits
pub record IsKept (plan : Plan) : Type 0 where
  pub names : Rises (map named plan.translation.debuginfo.name_section.func_names.entries)
  pub functions : Rises (map locals_named plan.translation.debuginfo.name_section.locals_names.entries)
  pub locals : All (λ entry. Rises (local_names entry.1)) plan.translation.debuginfo.name_section.locals_names.entries
  pub values : All (λ g. IsSized g.1) plan.translation.module.global_initializers.items
