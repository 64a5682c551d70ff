-- Functions of a module's types.
use Rattle.std.specs.Prelude.{ℕ}
use Rattle.wasm_index.specs.Index.{index_of}
use Rattle.wasm_types.specs.declared.entity.EntityType.{EntityType}
use Rattle.wasm_types.specs.declared.entity.EntityType.TheVariants as entity
use Rattle.wasm_types.specs.declared.index.EngineOrModuleTypeIndex.TheVariants.{Module}

-- a function whose type is the one at a position of the module's list
abbrev pub function_of_type : ℕ → EntityType
function_of_type i = entity.Function (Module (index_of i))
