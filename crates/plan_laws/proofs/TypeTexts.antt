use Rattle.std.proofs.Common.{ℕ, ◌+◌, ◌*◌, ◌^◌, ◌<◌, ◌≤◌, List, [], ◌∷◌, ◌++◌, length, Bool, true, false, Option, Some, None, arith, length-append, lit≤}
use Rattle.std.specs.Prelude.{codes, All, IfSome}
use Rattle.wasm_index.specs.Index.{number_of}
use Rattle.wasm_types.specs.declared.index.EngineOrModuleTypeIndex.{EngineOrModuleTypeIndex}
use Rattle.wasm_types.specs.declared.index.EngineOrModuleTypeIndex.TheVariants.{Engine, Module, RecGroup}
use Rattle.wasm_types.specs.declared.heap.WasmHeapType.{WasmHeapType}
use Rattle.wasm_types.specs.declared.heap.WasmHeapType.TheVariants as heap
use Rattle.wasm_types.specs.declared.value.WasmValType.{WasmValType}
use Rattle.wasm_types.specs.declared.field.WasmStorageType.{WasmStorageType}
use Rattle.wasm_types.specs.declared.aggregate.WasmArrayType.{WasmArrayType}
use Rattle.wasm_types.specs.declared.aggregate.WasmExnType.{WasmExnType}
use Rattle.wasm_types.specs.declared.aggregate.WasmStructType.{WasmStructType}
use Rattle.wasm_types.specs.declared.composite.WasmCompositeType.{WasmCompositeType}
use Rattle.wasm_types.specs.declared.cont.WasmContType.{WasmContType}
use Rattle.wasm_types.specs.declared.func.WasmFuncType.{WasmFuncType}
use Rattle.wasm_types.specs.Indices.{cont_index}
use Rattle.wasm_types.specs.Texts.{index_text, heap_text, nullable_text, ref_text, val_text, storage_text, field_text, spaced, group_text, array_text, func_text, struct_text, cont_text, exn_text, inner_text, composite_text, subtyping_text}
use Rattle.plan_lines.specs.TypeLines.{listed_number}
use Rattle.plan_laws.proofs.Lengths.{decimal-narrow, spaced-each}

pub index-short : (i : EngineOrModuleTypeIndex) → listed_number i < 2 ^ 32 → length (index_text i) ≤ 21
index-short (Engine i) h = simp length-append (omega (arith, decimal-narrow (number_of i) h))
index-short (Module i) h = simp length-append (omega (arith, decimal-narrow (number_of i) h))
index-short (RecGroup i) h = simp length-append (omega (arith, decimal-narrow (number_of i) h))

nullable-short : (h : WasmHeapType) → length (heap_text h) ≤ 28 → length (nullable_text h) ≤ 39
nullable-short heap.Func s = lit≤ tt
nullable-short heap.Extern s = lit≤ tt
nullable-short h s = simp length-append (omega (arith, s))

pub ref-short : (nullable : Bool) (h : WasmHeapType) → length (heap_text h) ≤ 28 → length (ref_text (record { nullable = nullable; heap_type = h })) ≤ 39
ref-short true h s = nullable-short h s
ref-short false h s = simp length-append (omega (arith, s))

pub field-short : (mutable : Bool) (t : WasmStorageType) → length (storage_text t) ≤ 39
    → length (field_text (record { mutable = mutable; element_type = t })) ≤ 45
field-short true t s = simp length-append (omega (arith, s))
field-short false t s = omega (arith, s)

group-of : (head body : List ℕ) (n : ℕ) → length body ≤ n → length (codes " (" ++ head ++ body ++ codes ")") ≤ 3 + length head + n
group-of head body n h = simp length-append (omega (arith, h))

group-short : (head : List ℕ) (ts : List WasmValType) → All (λ t. length (val_text t) ≤ 39) ts → length (group_text head ts) ≤ 3 + length head + 40 * length ts
group-short head [] h = omega arith
group-short head (t ∷ ts) h = group-of head (spaced val_text (t ∷ ts)) (40 * length (t ∷ ts)) (spaced-each val_text 39 (t ∷ ts) h)

pub func-short : (t : WasmFuncType) → All (λ t. length (val_text t) ≤ 39) t.params → All (λ t. length (val_text t) ≤ 39) t.results
    → length (func_text t) ≤ 23 + 40 * (length t.params + length t.results)
func-short t params results =
    simp length-append (omega (arith, group-short (codes "param") t.params params, group-short (codes "result") t.results results))

pub array-short : (t : WasmArrayType) → length (field_text t.0) ≤ 45 → length (array_text t) ≤ 53
array-short t h = simp length-append (omega (arith, h))

pub struct-short : (t : WasmStructType) → All (λ f. length (field_text f) ≤ 45) t → length (struct_text t) ≤ 8 + 46 * length t
struct-short t h = simp length-append (omega (arith, spaced-each field_text 45 t h))

pub cont-short : (t : WasmContType) → length (index_text (cont_index t)) ≤ 21 → length (cont_text t) ≤ 28
cont-short t h = simp length-append (omega (arith, h))

pub exn-short : (t : WasmExnType) → length (index_text t.func_ty) ≤ 21 → All (λ f. length (field_text f) ≤ 45) t.fields
    → length (exn_text t) ≤ 29 + 46 * length t.fields
exn-short t func h = simp length-append (omega (arith, func, spaced-each field_text 45 t.fields h))

pub composite-short : (t : WasmCompositeType) (n : ℕ) → length (inner_text t.inner) ≤ n → length (composite_text t) ≤ 9 + n
composite-short t n h = by t.shared where
  by : (shared : Bool) → length (composite_text (record { inner = t.inner; shared = shared })) ≤ 9 + n
  by true = simp length-append (omega (arith, h))
  by false = omega (arith, h)

pub sub-short : (is_final : Bool) (super : Option EngineOrModuleTypeIndex) (composite : List ℕ) (n : ℕ)
    → IfSome super (λ i. length (index_text i) ≤ 21) → length composite ≤ n → length (subtyping_text is_final super composite) ≤ 34 + n
sub-short true None composite n i h = omega (arith, h)
sub-short true (Some index) composite n i h = simp length-append (omega (arith, i, h))
sub-short false None composite n i h = simp length-append (omega (arith, h))
sub-short false (Some index) composite n i h = simp length-append (omega (arith, i, h))
