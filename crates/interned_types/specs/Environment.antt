-- Which types an environment knows: those that the record of its translation holds, by their
-- indices (core specification, 2.5, types).
use Rattle.std.specs.Prelude.{◌≡◌, ◌<◌, ℕ, List, length, slice_get, Option, Some, None, IsSomeAnd, option_and_then}
use Rattle.wasm_index.specs.Index.{number_of}
use Rattle.wasm_types.specs.declared.index.EngineOrModuleTypeIndex.{EngineOrModuleTypeIndex}
use Rattle.wasm_types.specs.declared.heap.WasmHeapType.{WasmHeapType}
use Rattle.wasm_types.specs.ValueViews.{Name}
use Rattle.wasm_types.specs.Views.{module_index}
use Rattle.module_types.specs.Views.{TypeIndex}
use Rattle.module_types.specs.Builder.{BuilderState}
use Rattle.module_types.specs.Converter.{interned_name}
use Rattle.interned_types.specs.Named.{name_at}
use Rattle.wasm_spec.specs.declared.types.UnpackedIndex.{UnpackedIndex}
use Rattle.wasm_spec.specs.declared.types.UnpackedIndex.TheVariants as index
use Rattle.wasm_spec.specs.Module as plain
use Rattle.rule_spec.specs.Lists.{lists_of_module}
use Rattle.wasm_convert.specs.Conversion.{LookUp}
use Rattle.interned_types.specs.Types.{look_up_in}

-- the interned type of a type of a record
abbrev pub interned_in : List EngineOrModuleTypeIndex → ℕ → Option TypeIndex
interned_in types i = option_and_then module_index (slice_get types i)

abbrev pub number_or_zero : Option TypeIndex → ℕ
number_or_zero None = 0
number_or_zero (Some k) = number_of k

-- each is an interned type, whose number is below a count
abbrev pub AreHeld : List EngineOrModuleTypeIndex → ℕ → Type 0
AreHeld types count = (i : ℕ) → i < length types → IsSomeAnd (interned_in types i) (λ k. number_of k < count)

-- over the types of a record, and what a builder keeps
module _ (types : List EngineOrModuleTypeIndex) (b : BuilderState) where
  -- what the type at an index is named by
  abbrev pub declared_name : ℕ → Name
  declared_name i = interned_name b (number_or_zero (interned_in types i))

  -- these references name each type
  pub record NameEach (names : List WasmHeapType) : Type 0 where
    pub long : length names ≡ length types
    pub named : (i : ℕ) → i < length names → name_at names i ≡ Some (declared_name i)

-- the declared types are known, and looked up to their interned types
pub record LooksUpTypes (m : plain.Module) (known : UnpackedIndex → Type 0) (look : LookUp) : Type 0 where
  pub knows : (i : ℕ) → i < length (lists_of_module m).types → known (index.Module i)
  pub same : look ≡ look_up_in m
