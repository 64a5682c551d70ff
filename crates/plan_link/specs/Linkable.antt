-- When a module and the list of its types may be registered and linked.
use Rattle.std.specs.Prelude.{◌≡◌, ◌<◌, ℕ, List, length, IfSome}
use Rattle.module_types.specs.TypeList.{TypeList}
use Rattle.type_registry.specs.declared.key.ModuleKey.{ModuleKey}
use Rattle.type_registry.specs.Keys.{key_number}
use Rattle.type_registry.specs.Registry.{RegistryState, registry_of, count_of}
use Rattle.module_types.specs.Listed.{Listed}
use Rattle.wasm_module.specs.declared.module.Module.{Module}
use Rattle.import_match.specs.Linking.{CanExport, CanImport}

-- where the key is held, its module has so many types
abbrev pub HasCount : RegistryState → ModuleKey → ℕ → Type 0
HasCount registry key count = IfSome (count_of (registry_of registry) (key_number key)) (λ held. held ≡ count)

-- its types may be registered; under each key that has so many types, its exports may be defined
-- and its imports resolved
pub record IsLinkable (m : Module) (l : TypeList) : Type 0 where
  pub listed : Listed l
  pub few : length l.types < 4294967295
  pub exports : (registry : RegistryState) (key : ModuleKey) (from : List ℕ) → HasCount registry key (length l.types) → CanExport registry key m from
  pub imports : (registry : RegistryState) (key : ModuleKey) → HasCount registry key (length l.types) → CanImport registry key m
