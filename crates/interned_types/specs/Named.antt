-- What declared types are named by: a list of references to interned types.
use Rattle.std.specs.Prelude.{ℕ, List, Option, Some, None, slice_get, option_and_then, unwrap_or, IsSome}
use Rattle.wasm_spec.specs.declared.types.UnpackedIndex.{UnpackedIndex}
use Rattle.wasm_spec.specs.declared.types.UnpackedIndex.TheVariants as index
use Rattle.wasm_spec.specs.TypeData.{Heap, Concrete, Abstract}
use Rattle.type_spec.specs.Names.{FuncName}
use Rattle.form_types.specs.Placed.{place_of}
use Rattle.wasm_types.specs.declared.heap.WasmHeapType.{WasmHeapType}
use Rattle.wasm_types.specs.ValueViews.{Name, heap_of}
use Rattle.interned_types.specs.Types.{type_index}

abbrev pub named_by : Heap Name → Option Name
named_by (Concrete name) = Some name
named_by (Abstract heap) = None

-- what the type at an index is named by
abbrev pub name_at : List WasmHeapType → ℕ → Option Name
name_at names i = option_and_then (λ h. named_by (heap_of h)) (slice_get names i)

-- the default for the name of an index that is not known
abbrev pub unnamed : Name
unnamed = record { kind = FuncName; index = type_index 0 }

-- an index of a declared type names one, where one is listed
abbrev pub IsNamed : List WasmHeapType → UnpackedIndex → Type 0
IsNamed names (index.Module i) = IsSome (name_at names i)
IsNamed names _ = ⊥

abbrev pub name_in : List WasmHeapType → UnpackedIndex → Name
name_in names i = unwrap_or (name_at names (place_of i)) unnamed
