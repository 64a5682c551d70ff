-- Startup of a translation, and how a call changes it: an existing startup type is kept, and
-- otherwise the builder gives one.
use Rattle.wasm_index.specs.Index.{index_of}
use Rattle.wasm_types.specs.declared.index.EngineOrModuleTypeIndex.{EngineOrModuleTypeIndex}
use Rattle.wasm_types.specs.declared.index.EngineOrModuleTypeIndex.TheVariants.{Module}
use Rattle.wasm_module.specs.declared.startup.ModuleStartup.{ModuleStartup}
use Rattle.wasm_module.specs.declared.startup.ModuleStartup.TheVariants as startup
use Rattle.module_types.specs.Builder.{Builder, starts, startup_index}
use Rattle.replay_spec.specs.Startup.{Startup, Never, Always, IfMemoriesNeedInit}
use Rattle.init_plan.specs.declared.translation.ModuleTranslation.{ModuleTranslation}

-- when it runs
abbrev pub startup_kind : ModuleStartup → Startup
startup_kind startup.None = Never
startup_kind (startup.Always ty) = Always
startup_kind (startup.IfMemoriesNeedInit ty) = IfMemoriesNeedInit

-- startup where memories need their images, unless there is startup already
abbrev pub with_images : Startup → Startup
with_images Never = IfMemoriesNeedInit
with_images kind = kind

-- startup of this kind, with a type
abbrev pub startup_with : Startup → EngineOrModuleTypeIndex → ModuleStartup
startup_with Never ty = startup.None
startup_with Always ty = startup.Always ty
startup_with IfMemoriesNeedInit ty = startup.IfMemoriesNeedInit ty

-- the existing type, or else another
abbrev pub standing_or : ModuleStartup → EngineOrModuleTypeIndex → EngineOrModuleTypeIndex
standing_or startup.None ty = ty
standing_or (startup.Always standing) ty = standing
standing_or (startup.IfMemoriesNeedInit standing) ty = standing

-- startup of this kind, from an earlier one and a builder
abbrev pub raised : Startup → ModuleStartup → Builder → ModuleStartup
raised kind before types = startup_with kind (standing_or before (Module (index_of (startup_index types))))

-- the builder after that: it gains the startup type where there was none, and nothing else
abbrev pub types_after : Startup → ModuleStartup → Builder → Builder
types_after Never before types = types
types_after kind startup.None types = starts types
types_after kind before types = types

-- all of a translation but startup
abbrev pub with_startup : ModuleTranslation → ModuleStartup → ModuleTranslation
with_startup t s = record t { «module» = record t.module { startup = s } }
