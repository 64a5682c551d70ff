-- Types whose indices are below a bound, by their parts.
use Rattle.std.proofs.Common.{◌↔◌, ℕ, ◌+◌, ◌≤◌, List, [], ◌∷◌, length, Option, Some, None, All, IfSome, arith}
use Rattle.std.specs.List.{flat_map}
use Rattle.std.specs.Option.{option_to_list}
use Rattle.std.proofs.lemmas.List.Elements.{All-nil, All-cons, All-head, All-tail, All-weaker}
use Rattle.wasm_spec.specs.declared.types.UnpackedIndex.{UnpackedIndex}
use Rattle.wasm_spec.specs.declared.types.UnpackedIndex.TheVariants.{Module}
use Rattle.wasm_spec.specs.declared.types.AbstractHeapType.{AbstractHeapType}
use Rattle.wasm_spec.specs.TypeData.{Concrete, Abstract, Reference, ValueType, I32, I64, F32, F64, V128, Ref, I8, I16, Val, Field, Function, Func, Array, Struct, Cont, SubType, value_edges, field_edges, composite_edges, sub_type_edges, group_edges}
use Rattle.rule_spec.specs.Lists.{Declared, declared_from}
use Rattle.rule_spec.specs.TypeRules.{IsBelow, HeapIsBelow, ValueIsBelow, KindIsBelow}
use Rattle.form_types.proofs.AllOf.{All-joined, All-parts}
use Rattle.form_types.specs.Below.{StorageIsBelow, FieldIsBelow, HasSupertypeBelow, NamesBelow}
use Rattle.form_types.specs.Types.{NamedGroup}

one : (bound : ℕ) (i : UnpackedIndex) → All (IsBelow bound) (i ∷ []) ↔ IsBelow bound i
one bound i = (All-head (IsBelow bound) i [], λ is. All-cons (IsBelow bound) i [] is (All-nil (IsBelow bound)))

-- ---- heap types

pub concrete_below : (bound : ℕ) (i : UnpackedIndex) → HeapIsBelow bound (Concrete i) ↔ IsBelow bound i
unfolding HeapIsBelow
concrete_below bound i = one bound i

pub abstract_below : (bound : ℕ) (h : AbstractHeapType) → HeapIsBelow bound (Abstract h)
unfolding HeapIsBelow
abstract_below bound h = All-nil (IsBelow bound)

-- ---- value types

pub ref_below : (bound : ℕ) (r : Reference UnpackedIndex) → ValueIsBelow bound (Ref r) ↔ HeapIsBelow bound r.heap
unfolding ValueIsBelow HeapIsBelow
ref_below bound r = (λ below. below, λ below. below)

pub i32_below : (bound : ℕ) → ValueIsBelow bound I32
unfolding ValueIsBelow
i32_below bound = All-nil (IsBelow bound)

pub i64_below : (bound : ℕ) → ValueIsBelow bound I64
unfolding ValueIsBelow
i64_below bound = All-nil (IsBelow bound)

pub f32_below : (bound : ℕ) → ValueIsBelow bound F32
unfolding ValueIsBelow
f32_below bound = All-nil (IsBelow bound)

pub f64_below : (bound : ℕ) → ValueIsBelow bound F64
unfolding ValueIsBelow
f64_below bound = All-nil (IsBelow bound)

pub v128_below : (bound : ℕ) → ValueIsBelow bound V128
unfolding ValueIsBelow
v128_below bound = All-nil (IsBelow bound)

-- ---- fields

pub i8_below : (bound : ℕ) → StorageIsBelow bound I8
unfolding StorageIsBelow
i8_below bound = All-nil (IsBelow bound)

pub i16_below : (bound : ℕ) → StorageIsBelow bound I16
unfolding StorageIsBelow
i16_below bound = All-nil (IsBelow bound)

pub val_below : (bound : ℕ) (v : ValueType UnpackedIndex) → StorageIsBelow bound (Val v) ↔ ValueIsBelow bound v
unfolding StorageIsBelow ValueIsBelow
val_below bound v = (λ below. below, λ below. below)

pub field_below : (bound : ℕ) (f : Field UnpackedIndex) → FieldIsBelow bound f ↔ StorageIsBelow bound f.element
unfolding FieldIsBelow StorageIsBelow
field_below bound f = (λ below. below, λ below. below)

-- ---- kinds

pub function_below : (bound : ℕ) (f : Function UnpackedIndex)
    → KindIsBelow bound (Func f) ↔ (All (ValueIsBelow bound) f.params × All (ValueIsBelow bound) f.results)
unfolding KindIsBelow ValueIsBelow
function_below bound f =
    let edges : ValueType UnpackedIndex → List UnpackedIndex = value_edges (λ i. i) in
    let joined = All-joined (IsBelow bound) (flat_map edges f.params) (flat_map edges f.results) in
    let params = All-parts (IsBelow bound) edges f.params in
    let results = All-parts (IsBelow bound) edges f.results in (
      λ below. let both = joined.0 below in (params.0 both.0, results.0 both.1),
      λ both. joined.1 (params.1 both.0, results.1 both.1),
    )

pub array_below : (bound : ℕ) (f : Field UnpackedIndex) → KindIsBelow bound (Array f) ↔ FieldIsBelow bound f
unfolding KindIsBelow FieldIsBelow
array_below bound f = (λ below. below, λ below. below)

pub struct_below : (bound : ℕ) (fs : List (Field UnpackedIndex)) → KindIsBelow bound (Struct fs) ↔ All (FieldIsBelow bound) fs
unfolding KindIsBelow FieldIsBelow
struct_below bound fs = All-parts (IsBelow bound) (field_edges (λ i. i)) fs

pub cont_below : (bound : ℕ) (i : UnpackedIndex) → KindIsBelow bound (Cont i) ↔ IsBelow bound i
unfolding KindIsBelow
cont_below bound i = one bound i

-- ---- groups

below-later : (index end : ℕ) → index ≤ end → (i : UnpackedIndex) → IsBelow index i → IsBelow end i
below-later index end le (Module i) below = omega (arith, le, below)
below-later index end le i below = absurd below

supertype-later : (index end : ℕ) → index ≤ end → (s : Option UnpackedIndex) → IfSome s (IsBelow index) → All (IsBelow end) (option_to_list s)
supertype-later index end le None below = All-nil (IsBelow end)
supertype-later index end le (Some i) below = All-cons (IsBelow end) i [] (below-later index end le i below) (All-nil (IsBelow end))

-- all that a group names is below its end, where each type names only types below its end and has a supertype
-- before itself
module _ (end : ℕ) where
  names-joined : (t : SubType UnpackedIndex UnpackedIndex) → All (IsBelow end) (sub_type_edges (λ i. i) t)
      ↔ (All (IsBelow end) (option_to_list t.supertype) × KindIsBelow end t.composite.inner)
  unfolding KindIsBelow
  names-joined t = All-joined (IsBelow end) (option_to_list t.supertype) (composite_edges (λ i. i) t.composite.inner)

  group-told : (index : ℕ) (g : NamedGroup) → All (IsBelow end) (group_edges (λ i. i) g) → All HasSupertypeBelow (declared_from end index g)
      → All NamesBelow (declared_from end index g)
  group-told index [] named supers = All-nil NamesBelow
  group-told index (t ∷ ts) named supers =
      let d : Declared = record { type = t; index = index; group_end = end } in
      let ds = declared_from end (index + 1) ts in
      let parts = (All-joined (IsBelow end) (sub_type_edges (λ i. i) t) (group_edges (λ i. i) ts)).0 named in
      All-cons NamesBelow d ds
      (record { indices = ((names-joined t).0 parts.0).1; supertype = All-head HasSupertypeBelow d ds supers })
      (group-told (index + 1) ts parts.1 (All-tail HasSupertypeBelow d ds supers))

  group-names : (index : ℕ) (g : NamedGroup) → index + length g ≤ end → All NamesBelow (declared_from end index g)
      → All (IsBelow end) (group_edges (λ i. i) g)
  group-names index [] le all = All-nil (IsBelow end)
  group-names index (t ∷ ts) le all =
      let d : Declared = record { type = t; index = index; group_end = end } in
      let ds = declared_from end (index + 1) ts in
      let well : NamesBelow d = All-head NamesBelow d ds all in
      (All-joined (IsBelow end) (sub_type_edges (λ i. i) t) (group_edges (λ i. i) ts)).1 (
        (names-joined t).1 (supertype-later index end (omega arith) t.supertype well.supertype, well.indices),
        group-names (index + 1) ts (omega arith) (All-tail NamesBelow d ds all),
      )

  pub group_below : (index : ℕ) (g : NamedGroup) → index + length g ≤ end
      → (All (IsBelow end) (group_edges (λ i. i) g) × All HasSupertypeBelow (declared_from end index g)) ↔ All NamesBelow (declared_from end index g)
  group_below index g le = (
    λ both. group-told index g both.0 both.1,
    λ all. (group-names index g le all, All-weaker NamesBelow HasSupertypeBelow (λ d well. well.supertype) (declared_from end index g) all),
  )
