-- A registry as one plain value.
use Rattle.std.specs.Prelude.{ℕ, nat_eq, List, [], map, length, get_or, slice_get, All, Option, None, IsSome, option_and_then}
use Rattle.std.specs.List.{flat_map, zip}
use Rattle.std.specs.Map.{lookup}
use Rattle.std.specs.Option.{option_map}
use Rattle.wasm_spec.specs.TypeData.{SubType, map_sub_type, sub_type_edges}
use Rattle.type_spec.specs.Names.{named, index_of as index_in}
use Rattle.wasm_index.specs.Index.{number_of, index_of}
use Rattle.wasm_types.specs.declared.index.EngineOrModuleTypeIndex.{EngineOrModuleTypeIndex}
use Rattle.wasm_types.specs.declared.index.EngineOrModuleTypeIndex.TheVariants as index
use Rattle.wasm_types.specs.declared.sub.WasmSubType.{WasmSubType}
use Rattle.wasm_types.specs.Views.{engine_index}
use Rattle.wasm_types.specs.ValueViews.{Name}
use Rattle.wasm_types.specs.TypeViews.{sub_type_of}

-- a kept group: its members, with references inside it as positions and all others as the engine's
-- indices; the index of each; and how often held modules have it
pub record Group : Type 0 where
  pub canonical : List WasmSubType
  pub indices : List ℕ
  pub count : ℕ

-- a held module: the index of each of its types, and the first index of each of its groups
pub record Module : Type 0 where
  pub indices : List ℕ
  pub groups : List ℕ

-- kept groups by their first indices, in order
abbrev pub Groups : Type 0
Groups = List (ℕ × Group)

-- kept groups, the capacity for indices, and the capacity for further groups
pub record GroupsState : Type 0 where
  pub groups : Groups
  pub room : ℕ
  pub spare : ℕ

-- the most types that may be live, how many registrations there were, the module that is held under
-- each key, and the kept groups
pub record Registry : Type 0 where
  pub max_types : ℕ
  pub registrations : ℕ
  pub held : ℕ → Option Module
  pub groups : Groups

-- what a registry keeps: the same, with the entries of the map of held modules in some order
pub record RegistryState : Type 0 where
  pub max_types : ℕ
  pub registrations : ℕ
  pub modules : List (ℕ × Module)
  pub groups : Groups

abbrev pub registry_of : RegistryState → Registry
registry_of s = record {
  max_types = s.max_types;
  registrations = s.registrations;
  held = λ key. lookup (nat_eq key) s.modules;
  groups = s.groups;
}

abbrev pub nothing_held : ℕ → Option Module
nothing_held key = None

abbrev pub empty : ℕ → Registry
empty max_types = record { max_types = max_types; registrations = 0; held = nothing_held; groups = [] }

-- ---- look-ups

abbrev pub index_at : Registry → ℕ → ℕ → Option ℕ
index_at r key i = option_and_then (λ (m : Module). slice_get m.indices i) (r.held key)

abbrev pub count_of : Registry → ℕ → Option ℕ
count_of r key = option_map (λ (m : Module). length m.indices) (r.held key)

-- ---- what is live

-- the indices that some groups have
abbrev pub indices_of : Groups → List ℕ
indices_of gs = flat_map (λ (e : ℕ × Group). e.1.indices) gs

abbrev pub live : Registry → List ℕ
live r = indices_of r.groups

-- ---- types as they are used

-- a reference inside a group becomes the engine's
abbrev pub used_edge : List ℕ → EngineOrModuleTypeIndex → EngineOrModuleTypeIndex
used_edge indices (index.RecGroup i) = index.Engine (index_of (get_or indices (number_of i) 0))
used_edge indices e = e

abbrev pub UsedType : Type 0
UsedType = SubType Name EngineOrModuleTypeIndex

abbrev pub used_type : List ℕ → WasmSubType → UsedType
used_type indices t = map_sub_type (named (used_edge indices)) (used_edge indices) (sub_type_of t)

-- each live index with its type, whose references are the engine's alone
abbrev pub used_types : Groups → List (ℕ × UsedType)
used_types gs = flat_map (λ (e : ℕ × Group). zip e.1.indices (map (used_type e.1.indices) e.1.canonical)) gs

-- each reference of a type is the engine's
abbrev pub HasEngineEdges : WasmSubType → Type 0
HasEngineEdges t = All (λ e. IsSome (engine_index e)) (sub_type_edges index_in (sub_type_of t))

abbrev pub type_at : Registry → ℕ → Option UsedType
type_at r i = lookup (nat_eq i) (used_types r.groups)
