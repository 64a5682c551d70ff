-- Tests of types without references: whether they have the same parts.
use Rattle.std.specs.Prelude.{ℕ, Bool, true, false, nat_eq, ◌&&◌, Option, Some, None}
use Rattle.std.specs.Bool.{beq}
use Rattle.std.specs.Cmp.Lexicographic.{pointwise}
use Rattle.wasm_spec.specs.declared.types.AbstractHeapType.{AbstractHeapType}
use Rattle.wasm_spec.specs.declared.types.AbstractHeapType.TheVariants as heap
use Rattle.wasm_spec.specs.TypeData.{Heap, Concrete, Abstract, Reference, ValueType, I32, I64, F32, F64, V128, Ref, Storage, I8, I16, Val, Field, Function, Composite, Func, Array, Struct, Cont, Exn, Shared, SubType, Group}

-- the byte of an abstract heap type
abbrev pub heap_byte : AbstractHeapType → ℕ
heap_byte heap.NoExn = 0x74
heap_byte heap.NoFunc = 0x73
heap_byte heap.NoExtern = 0x72
heap_byte heap.None = 0x71
heap_byte heap.Func = 0x70
heap_byte heap.Extern = 0x6F
heap_byte heap.Any = 0x6E
heap_byte heap.Eq = 0x6D
heap_byte heap.I31 = 0x6C
heap_byte heap.Struct = 0x6B
heap_byte heap.Array = 0x6A
heap_byte heap.Exn = 0x69
heap_byte heap.NoCont = 0x75
heap_byte heap.Cont = 0x68

-- a reference that is omitted
abbrev pub Gap : Type 0
Gap = Unit {0}

abbrev pub same_heap : Heap Gap → Heap Gap → Bool
same_heap (Concrete a) (Concrete b) = true
same_heap (Abstract a) (Abstract b) = nat_eq (heap_byte a) (heap_byte b)
same_heap _ _ = false

abbrev pub same_reference : Reference Gap → Reference Gap → Bool
same_reference a b = beq a.nullable b.nullable && same_heap a.heap b.heap

abbrev pub same_value : ValueType Gap → ValueType Gap → Bool
same_value I32 I32 = true
same_value I64 I64 = true
same_value F32 F32 = true
same_value F64 F64 = true
same_value V128 V128 = true
same_value (Ref a) (Ref b) = same_reference a b
same_value _ _ = false

abbrev pub same_storage : Storage Gap → Storage Gap → Bool
same_storage I8 I8 = true
same_storage I16 I16 = true
same_storage (Val a) (Val b) = same_value a b
same_storage _ _ = false

abbrev pub same_field : Field Gap → Field Gap → Bool
same_field a b = same_storage a.element b.element && beq a.mutable b.mutable

abbrev pub same_function : Function Gap → Function Gap → Bool
same_function a b = pointwise same_value a.params b.params && pointwise same_value a.results b.results

abbrev pub same_composite : Composite Gap Gap → Composite Gap Gap → Bool
same_composite (Func a) (Func b) = same_function a b
same_composite (Array a) (Array b) = same_field a b
same_composite (Struct a) (Struct b) = pointwise same_field a b
same_composite (Cont a) (Cont b) = true
same_composite (Exn a) (Exn b) = pointwise same_field a.fields b.fields
same_composite _ _ = false

abbrev pub same_supertype : Option Gap → Option Gap → Bool
same_supertype None None = true
same_supertype (Some a) (Some b) = true
same_supertype _ _ = false

abbrev pub same_shared : Shared Gap Gap → Shared Gap Gap → Bool
same_shared a b = same_composite a.inner b.inner && beq a.shared b.shared

abbrev pub same_sub_type : SubType Gap Gap → SubType Gap Gap → Bool
same_sub_type a b = beq a.is_final b.is_final && (same_supertype a.supertype b.supertype && same_shared a.composite b.composite)

abbrev pub same_frame : Group Gap Gap → Group Gap Gap → Bool
same_frame a b = pointwise same_sub_type a b
