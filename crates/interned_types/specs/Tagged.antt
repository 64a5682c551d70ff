-- The tags of a module whose declared types were interned.
use Rattle.std.specs.Prelude.{◌≡◌, ◌<◌, ◌^◌, ℕ, All, List, length, map}
use Rattle.wasm_spec.specs.Module as plain
use Rattle.rule_spec.specs.Lists.{lists_of_module}
use Rattle.rule_spec.specs.TypeRules.{NamesFunctionType}
use Rattle.type_spec.specs.Interned.{taken}
use Rattle.type_spec.specs.Taken.{NameEarlier}
use Rattle.form_types.specs.Placed.{placed_groups}
use Rattle.wasm_types.specs.declared.index.EngineOrModuleTypeIndex.{EngineOrModuleTypeIndex}
use Rattle.wasm_types.specs.declared.tag.Tag.{Tag}
use Rattle.module_types.specs.Builder.{Builder, exception_index}
use Rattle.interned_types.specs.Environment.{interned_in, number_or_zero}
use Rattle.interned_types.specs.Types.{declared, type_index, HoldsGroupsAlone, declared_type, exception_at}

-- a builder holds the declared types of a module and nothing else, each at the index that a list
-- gives it; the tags name function types
pub record CanTag (m : plain.Module) (tags : List ℕ) (types : List EngineOrModuleTypeIndex) (b : Builder) : Type 0 where
  pub earlier : NameEarlier 0 (placed_groups m)
  pub few : length (plain.types m) < 2 ^ 30
  pub listed : types ≡ map type_index (declared m)
  pub built : b.built ≡ (taken (placed_groups m)).built
  pub validator : ℕ
  pub alone : HoldsGroupsAlone validator b
  pub named : tags ≡ plain.tags m
  pub functions : All (NamesFunctionType (lists_of_module m)) (plain.tags m)

-- of a builder only what it built and its exception types are new
abbrev pub GainsExceptions : Builder → Builder → Type 0
GainsExceptions old new = new ≡ record old { built = new.built; exceptions = new.exceptions }

-- the interned function type of a declared one
abbrev pub function_at : List EngineOrModuleTypeIndex → ℕ → ℕ
function_at types i = number_or_zero (interned_in types i)

-- its tag, with the exception type that a builder has or makes next
abbrev pub tag_at : Builder → ℕ → Tag
tag_at b function = record { signature = type_index function; exception = type_index (exception_index b function) }

-- the tags of a module, with the interned indices of function types and exception types
abbrev pub tags_of : plain.Module → List Tag
tags_of m = map (λ i. record { signature = declared_type m i; exception = type_index (exception_at m i) }) (plain.tags m)
