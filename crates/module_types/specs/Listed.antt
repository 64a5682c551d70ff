-- Lists whose types may be compared over several modules.
use Rattle.std.specs.Prelude.{◌≡◌, false, All, List, Option, None}
use Rattle.wasm_spec.specs.TypeData.{map_group}
use Rattle.type_spec.specs.Names.{named}
use Rattle.type_spec.specs.Interned.{Interned, Built}
use Rattle.wasm_types.specs.declared.func.WasmFuncType.{WasmFuncType}
use Rattle.wasm_types.specs.TypeViews.{group_of}
use Rattle.module_types.specs.Views.{TypeIndex, index_at}
use Rattle.module_types.specs.TypeList.{TypeList}
use Rattle.module_types.specs.Held.{built_of}
use Rattle.module_types.specs.ListGroups.{IsWellNamed}

abbrev pub nowhere : WasmFuncType → Option TypeIndex
nowhere f = None

-- a list as data, whose references are positions in it
abbrev pub list_of : TypeList → Built
list_of l = built_of l nowhere

-- the groups are consecutive, and none is empty; each reference names a type of its own group or of
-- an earlier one, by its kind; and each is a module's index, so that the types can be converted
-- back from the data
pub record Listed (l : TypeList) : Type 0 where
  pub well_named : IsWellNamed (list_of l)
  pub indexed : map_group (named index_at) index_at (list_of l).types ≡ group_of l.types

-- no type is shared
abbrev pub IsUnshared : List Interned → Type 0
IsUnshared ts = All (λ (t : Interned). t.composite.shared ≡ false) ts

-- what a builder keeps
pub record MayBeListed (b : Built) : Type 0 where
  pub well_named : IsWellNamed b
  pub unshared : IsUnshared b.types
