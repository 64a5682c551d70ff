-- The hierarchies of heap types (core specification, 3.3, heap types), each by its top.
use Rattle.wasm_spec.specs.declared.types.AbstractHeapType.{AbstractHeapType}
use Rattle.wasm_spec.specs.declared.types.AbstractHeapType.TheVariants as heap
use Rattle.wasm_spec.specs.TypeData.{Heap, Concrete, Abstract}
use Rattle.type_spec.specs.Names.{NameKind, FuncName, ContName, ExnName, Named}

abbrev pub top_of_kind : NameKind → AbstractHeapType
top_of_kind FuncName = heap.Func
top_of_kind ContName = heap.Cont
top_of_kind ExnName = heap.Exn
top_of_kind _ = heap.Any

abbrev pub top_of_heap : AbstractHeapType → AbstractHeapType
top_of_heap heap.Func = heap.Func
top_of_heap heap.NoFunc = heap.Func
top_of_heap heap.Extern = heap.Extern
top_of_heap heap.NoExtern = heap.Extern
top_of_heap heap.Exn = heap.Exn
top_of_heap heap.NoExn = heap.Exn
top_of_heap heap.Cont = heap.Cont
top_of_heap heap.NoCont = heap.Cont
top_of_heap _ = heap.Any

abbrev pub top : {R : Type 0} → Heap (Named R) → AbstractHeapType
top (Concrete n) = top_of_kind n.kind
top (Abstract h) = top_of_heap h
