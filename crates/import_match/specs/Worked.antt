-- Definitions and imports of the worked examples.
use Rattle.std.specs.Prelude.{ℕ, Bool, false, Option, codes}
use Rattle.wasm_types.specs.declared.entity.EntityType.{EntityType}
use Rattle.wasm_types.specs.declared.entity.EntityType.TheVariants as entity
use Rattle.wasm_types.specs.declared.limits.IndexType.TheVariants.{I32}
use Rattle.wasm_types.specs.declared.value.WasmValType.{WasmValType}
use Rattle.import_match.specs.Definitions.{Definition}

-- a memory of 32-bit addresses and of pages of 65536 bytes
abbrev pub memory : ℕ → Option ℕ → EntityType
memory min max = entity.Memory (record { idx_type = I32; limits = record { min = min; max = max }; shared = false; page_size_log2 = 16 })

-- a global under the names m and g
abbrev pub global : WasmValType → Bool → Definition
global t mutability = ((codes "m", codes "g"), entity.Global (record { wasm_ty = t; mutability = mutability }))
