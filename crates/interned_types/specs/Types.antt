-- The types of a translated module (core specification, 2.5, types): each declared type by its
-- interned index.
use Rattle.std.specs.Prelude.{◌≡◌, ℕ, ◌+◌, ◌^◌, ◌<◌, ◌==◌, Bool, get_or, List, length, map, unwrap_or}
use Rattle.std.specs.List.{position}
use Rattle.wasm_spec.specs.Module.{tags}
use Rattle.wasm_spec.specs.Module as plain
use Rattle.type_spec.specs.Interned.{Built, kind_at, taken, interned}
use Rattle.type_spec.specs.Taken.{NameEarlier}
use Rattle.wasm_index.specs.Index.{index_of}
use Rattle.wasm_types.specs.declared.index.EngineOrModuleTypeIndex.{EngineOrModuleTypeIndex}
use Rattle.wasm_types.specs.declared.index.EngineOrModuleTypeIndex.TheVariants.{Module}
use Rattle.wasm_convert.specs.Conversion.{LookUp}
use Rattle.form_types.specs.Types.{TypesData}
use Rattle.form_types.specs.Numbered.{AreNumbered}
use Rattle.form_types.specs.Placed.{place_of, placed_groups}
use Rattle.module_types.specs.Builder.{Builder, new_builder}
use Rattle.entity_map.specs.Firsts.{firsts}

-- the interned index of each declared type
abbrev pub declared : plain.Module → List ℕ
declared m = (taken (placed_groups m)).declared

abbrev pub interned_at : plain.Module → ℕ → ℕ
interned_at m i = get_or (declared m) i 0

abbrev pub type_index : ℕ → EngineOrModuleTypeIndex
type_index k = Module (index_of k)

abbrev pub declared_type : plain.Module → ℕ → EngineOrModuleTypeIndex
declared_type m i = type_index (interned_at m i)

-- what an index of the module is looked up to
abbrev pub look_up_in : plain.Module → LookUp
look_up_in m i = record { kind = kind_at (placed_groups m) (place_of i); index = declared_type m (place_of i) }

-- the interned types of the module: with a startup type where startup is known to run
abbrev pub interned_list : plain.Module → Bool → Built
interned_list m startup = interned (placed_groups m) (tags m) startup

-- ---- exception types: after the groups, one for each function type of the tags

-- the function types of tags, each once, in the order of the first
abbrev pub exception_functions : plain.Module → List ℕ
exception_functions m = firsts (map (interned_at m) (tags m))

abbrev pub exception_at : plain.Module → ℕ → ℕ
exception_at m i = length (taken (placed_groups m)).built.types + unwrap_or (position (λ k. k == interned_at m i) (exception_functions m)) 0

-- a builder of a validator that holds groups, and no exception type and no startup type
abbrev pub HoldsGroupsAlone : ℕ → Builder → Type 0
HoldsGroupsAlone validator b = b ≡ record (new_builder validator) { built = b.built; ids = b.ids }

-- these are the types of a module by ids; each of its groups names only itself and those before
pub record AreTypesOf (m : plain.Module) (t : TypesData) : Type 0 where
  pub numbered : AreNumbered m t
  pub earlier : NameEarlier 0 (placed_groups m)
  pub few : length (plain.types m) < 2 ^ 30
