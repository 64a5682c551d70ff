-- When a type can be converted: each index in it can be looked up.
use Rattle.std.specs.Prelude.{◌≡◌, ◌≤◌, List, length, All, ⊤}
use Rattle.wasm_spec.specs.declared.types.UnpackedIndex.{UnpackedIndex}
use Rattle.wasm_spec.specs.declared.types.UnpackedIndex.TheVariants as index
use Rattle.wasm_spec.specs.declared.types.HeapType.{HeapType}
use Rattle.wasm_spec.specs.TypeData.{Function, Composite, Func, Cont, heap_of, heap_edges}
use Rattle.type_spec.specs.Names.{FuncName}
use Rattle.wasm_convert.specs.Conversion.{LookUp}

module _ (known : UnpackedIndex → Type 0) where
  -- an index that is known, and that is not an index into a group
  abbrev pub CanLookUp : UnpackedIndex → Type 0
  CanLookUp (index.Module i) = known (index.Module i)
  CanLookUp (index.Id i) = known (index.Id i)
  CanLookUp (index.RecGroup i) = ⊥

  -- all edges of a type are known and not into a group
  abbrev pub Known : List UnpackedIndex → Type 0
  Known edges = All CanLookUp edges

  abbrev pub KnowsHeap : HeapType → Type 0
  KnowsHeap h = Known (heap_edges (λ i. i) (heap_of h))

-- a function type has at most 4294967295 parameters and as many results
abbrev pub IsFew : Function UnpackedIndex → Type 0
IsFew t = (length t.params ≤ 4294967295) × (length t.results ≤ 4294967295)

-- and a continuation resumes a function: its index names a function type
abbrev pub CanConvert : LookUp → Composite UnpackedIndex UnpackedIndex → Type 0
CanConvert look (Func t) = IsFew t
CanConvert look (Cont i) = (look i).kind ≡ FuncName
CanConvert look _ = ⊤
