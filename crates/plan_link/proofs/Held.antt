-- The counts of held modules.
use Rattle.std.proofs.Common.{◌∙◌, Some, length, refl, ap}
use Rattle.std.specs.Prelude.{is_some}
use Rattle.std.specs.Option.{option_map}
use Rattle.module_types.specs.TypeList.{TypeList}
use Rattle.type_registry.specs.declared.key.ModuleKey.{ModuleKey}
use Rattle.type_registry.specs.Keys.{key_number}
use Rattle.type_registry.specs.Registry.{RegistryState, Module, registry_of}
use Rattle.type_registry.specs.Standing.{Stands}
use Rattle.import_match.specs.Linking.{IsHeld}
use Rattle.plan_link.specs.Linkable.{HasCount}

-- a list that the registry holds under a key has as many types
pub stands-has : (registry : RegistryState) (key : ModuleKey) (l : TypeList) → Stands (registry_of registry) (key_number key) l
    → HasCount registry key (length l.types)
stands-has registry key l st = rw (ap (option_map (λ (m : Module). length m.indices)) st.held ∙ ap Some st.count) refl

-- so the key is held
pub stands-held : (registry : RegistryState) (key : ModuleKey) (l : TypeList) → Stands (registry_of registry) (key_number key) l → IsHeld registry key
stands-held registry key l st = ap is_some (ap (option_map (λ (m : Module). length m.indices)) st.held)
