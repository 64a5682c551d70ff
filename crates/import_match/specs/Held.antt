-- References that name types of a held module.
use Rattle.std.specs.Prelude.{ℕ, IsSome}
use Rattle.wasm_index.specs.Index.{number_of}
use Rattle.wasm_types.specs.declared.index.EngineOrModuleTypeIndex.{EngineOrModuleTypeIndex}
use Rattle.wasm_types.specs.declared.index.EngineOrModuleTypeIndex.TheVariants.{Module}
use Rattle.type_registry.specs.Registry.{Registry, index_at}

abbrev pub IsTypeOf : Registry → ℕ → EngineOrModuleTypeIndex → Type 0
IsTypeOf r key (Module i) = IsSome (index_at r key (number_of i))
IsTypeOf r key _ = ⊥
