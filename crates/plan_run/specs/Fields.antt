-- How many fields the struct types of a translation have, and the classes of its types.
use Rattle.std.specs.Prelude.{ℕ, List, length, Option, Some, None, slice_get, option_and_then}
use Rattle.wasm_index.specs.Index.{number_of}
use Rattle.wasm_types.specs.declared.index.EngineOrModuleTypeIndex.{EngineOrModuleTypeIndex}
use Rattle.wasm_types.specs.declared.index.EngineOrModuleTypeIndex.TheVariants as name
use Rattle.wasm_types.specs.declared.sub.WasmSubType.{WasmSubType}
use Rattle.wasm_types.specs.Views.{struct_in}
use Rattle.module_types.specs.TypeList.{TypeList}
use Rattle.init_plan.specs.declared.translation.ModuleTranslation.{ModuleTranslation}

-- the index of a type among the interned ones
abbrev pub module_type_number : EngineOrModuleTypeIndex → Option ℕ
module_type_number (name.Module index) = Some (number_of index)
module_type_number _ = None

-- the type of an index of the module
abbrev pub type_at : ModuleTranslation → TypeList → ℕ → Option WasmSubType
type_at t types index = option_and_then (slice_get types.types) (option_and_then module_type_number (slice_get t.module.types index))

abbrev pub length_or_zero : {A : Type 0} → Option (List A) → ℕ
length_or_zero None = 0
length_or_zero (Some fields) = length fields

-- how many fields the struct type of an index has, and 0 where there is none
abbrev pub field_count_in : ModuleTranslation → TypeList → ℕ → ℕ
field_count_in t types index = length_or_zero (option_and_then (λ (ty : WasmSubType). struct_in ty.composite_type.inner) (type_at t types index))
