-- What a held module exports and imports: definitions, with the engine's types.
use Rattle.std.specs.Prelude.{◌≡◌, ◌<◌, ℕ, List, map, All, Option, None, IsSome, IfSome, option_and_then, unwrap_or}
use Rattle.std.specs.List.{filter_map}
use Rattle.std.specs.Option.{option_map}
use Rattle.type_spec.specs.Names.{named}
use Rattle.entity_map.specs.declared.pool.Atom.{Atom}
use Rattle.wasm_index.specs.Index.{number_of, index_of}
use Rattle.wasm_index.specs.declared.index.Index.{Index}
use Rattle.wasm_index.specs.declared.spaces.ModuleInternedTypeSpace.{ModuleInternedTypeSpace}
use Rattle.wasm_index.specs.declared.spaces.VMSharedTypeSpace.{VMSharedTypeSpace}
use Rattle.wasm_types.specs.declared.entity.EntityIndex.{EntityIndex}
use Rattle.wasm_types.specs.declared.entity.EntityType.{EntityType}
use Rattle.wasm_types.specs.declared.index.EngineOrModuleTypeIndex.{EngineOrModuleTypeIndex}
use Rattle.wasm_types.specs.declared.index.EngineOrModuleTypeIndex.TheVariants.{Module}
use Rattle.wasm_types.specs.EntityData.{map_entity}
use Rattle.wasm_types.specs.EntityViews.{entity_of, entity_back}
use Rattle.wasm_trace.specs.Canonical.{runtime_edge}
use Rattle.wasm_module.specs.Record.{ModuleRecord, record_of}
use Rattle.wasm_module.specs.Entities.{entity_type}
use Rattle.wasm_module.specs.Imports.{text_of, imports_of, IsResolved}
use Rattle.wasm_module.specs.declared.module.Module.{Module as Record}
use Rattle.type_registry.specs.Keys.{key_number}
use Rattle.type_registry.specs.Registry.{Registry, RegistryState, registry_of, index_at, count_of}
use Rattle.type_registry.specs.declared.key.ModuleKey.{ModuleKey}
use Rattle.import_match.specs.Rules.{types_in}
use Rattle.import_match.specs.Definitions.{Definition}

-- ---- the engine's types

-- the engine's index of a type of the module that is held under a key; 0 where it has no such type
abbrev pub engine_index : Registry → ℕ → Index ModuleInternedTypeSpace → Index VMSharedTypeSpace
engine_index r key i = index_of (unwrap_or (index_at r key (number_of i)) 0)

-- the type of an entity with the engine's index in place of each of the module's
abbrev pub engine_type : Registry → ℕ → EntityType → EntityType
engine_type r key t =
    entity_back.back (map_entity (named (runtime_edge (engine_index r key))) (runtime_edge (engine_index r key)) (entity_of t))

abbrev pub engine_definition : Registry → ℕ → Definition → Definition
engine_definition r key d = (d.0, engine_type r key d.1)

abbrev pub engine_definitions : Registry → ℕ → List Definition → List Definition
engine_definitions r key ds = map (engine_definition r key) ds

-- a reference names one of the module's types, of which there are so many
abbrev pub IsTypeBelow : ℕ → EngineOrModuleTypeIndex → Type 0
IsTypeBelow count (Module i) = number_of i < count
IsTypeBelow count _ = ⊥

-- where the key is held, definitions name types of its module alone
abbrev pub HaveTypesOf : Registry → ℕ → List Definition → Type 0
HaveTypesOf r key ds = IfSome (count_of r key) (λ count. All (λ (d : Definition). All (IsTypeBelow count) (types_in d.1)) ds)

-- ---- exports and imports (core specification, 2.5, exports and imports)

-- the name of an export is in the pool and the module has its entity
abbrev pub IsExportResolved : ModuleRecord → Atom × EntityIndex → Type 0
IsExportResolved m e = IsSome (text_of m e.0) × IsSome (entity_type m e.1)

-- an export as a definition under the name of a module and its own; none where its text or its
-- entity is missing
abbrev pub export_of : ModuleRecord → List ℕ → Atom × EntityIndex → Option Definition
export_of m from e = option_and_then (λ (own : List ℕ). option_map (λ (t : EntityType). ((from, own), t)) (entity_type m e.1)) (text_of m e.0)

abbrev pub exports_of : ModuleRecord → List ℕ → List Definition
exports_of m from = filter_map (export_of m from) m.exports

-- the definitions that a module wants, import by import
abbrev pub wants_of : ModuleRecord → List Definition
wants_of m = map (λ (i : List ℕ × List ℕ × EntityType). ((i.0, i.1), i.2)) (imports_of m m.initializers)

-- ---- of a module, its key and a registry

-- what a module exports under a name, with the engine's types
abbrev pub exported : RegistryState → ModuleKey → Record → List ℕ → List Definition
exported registry key m from = engine_definitions (registry_of registry) (key_number key) (exports_of (record_of m) from)

-- what it imports, with the engine's types
abbrev pub wanted : RegistryState → ModuleKey → Record → List Definition
wanted registry key m = engine_definitions (registry_of registry) (key_number key) (wants_of (record_of m))

-- names of exports are in the pool, the module has their entities, and where the key is held these
-- name types of the module alone
pub record CanExport (registry : RegistryState) (key : ModuleKey) (m : Record) (from : List ℕ) : Type 0 where
  pub resolved : All (IsExportResolved (record_of m)) (record_of m).exports
  pub types : HaveTypesOf (registry_of registry) (key_number key) (exports_of (record_of m) from)

-- the same of imports
pub record CanImport (registry : RegistryState) (key : ModuleKey) (m : Record) : Type 0 where
  pub resolved : All (IsResolved (record_of m)) (record_of m).initializers
  pub types : HaveTypesOf (registry_of registry) (key_number key) (wants_of (record_of m))

-- a module is held under the key
abbrev pub IsHeld : RegistryState → ModuleKey → Type 0
IsHeld registry key = IsSome (count_of (registry_of registry) (key_number key))

-- none is
abbrev pub IsNotHeld : RegistryState → ModuleKey → Type 0
IsNotHeld registry key = count_of (registry_of registry) (key_number key) ≡ None
