-- What it means that a definition matches an import (core specification, 3.3, external types),
-- where types match only where they are equal.
use Rattle.std.specs.Prelude.{◌≡◌, ◌≤◌, ⊤, ℕ, Option, Some, None}
use Rattle.wasm_types.specs.declared.entity.EntityType.{EntityType}
use Rattle.wasm_types.specs.declared.entity.EntityType.TheVariants as entity
use Rattle.wasm_types.specs.declared.limits.Limits.{Limits}
use Rattle.wasm_types.specs.declared.table.Table.{Table}
use Rattle.wasm_types.specs.declared.memory.Memory.{Memory}
use Rattle.wasm_types.specs.declared.global.Global.{Global}

-- any greatest size is within the required one, where none is required
abbrev pub IsWithin : Option ℕ → Option ℕ → Type 0
IsWithin have None = ⊤
IsWithin None (Some want) = ⊥
IsWithin (Some have) (Some want) = have ≤ want

-- sizes are within the required ones
pub record AreWithin (have want : Limits) : Type 0 where
  pub min : want.min ≤ have.min
  pub max : IsWithin have.max want.max

pub record TableMatches (have want : Table) : Type 0 where
  pub element : have.ref_type ≡ want.ref_type
  pub index_type : have.idx_type ≡ want.idx_type
  pub sizes : AreWithin have.limits want.limits

pub record MemoryMatches (have want : Memory) : Type 0 where
  pub index_type : have.idx_type ≡ want.idx_type
  pub shared : have.shared ≡ want.shared
  pub page : have.page_size_log2 ≡ want.page_size_log2
  pub sizes : AreWithin have.limits want.limits

pub record GlobalMatches (have want : Global) : Type 0 where
  pub mutability : have.mutability ≡ want.mutability
  pub type : have.wasm_ty ≡ want.wasm_ty

abbrev pub Matches : EntityType → EntityType → Type 0
Matches (entity.Function have) (entity.Function want) = have ≡ want
Matches (entity.Table have) (entity.Table want) = TableMatches have want
Matches (entity.Memory have) (entity.Memory want) = MemoryMatches have want
Matches (entity.Global have) (entity.Global want) = GlobalMatches have want
Matches (entity.Tag have) (entity.Tag want) = have.signature ≡ want.signature
Matches have want = ⊥
