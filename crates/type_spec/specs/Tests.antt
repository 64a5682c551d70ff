-- Laws, with their proofs: types without references are equal exactly where the tests say so.
use Rattle.std.proofs.Common.{◌≡◌, ◌∙◌, ℕ, Bool, nat_eq, ◌&&◌, List, Option, Some, None, if◌then◌else◌, refl, sym, ap}
use Rattle.std.specs.Bool.{Decides, beq}
use Rattle.std.specs.Cmp.{booleans_Decides}
use Rattle.std.specs.Cmp.Lexicographic.{pointwise}
use Rattle.std.proofs.lemmas.Bool.Decides.{Decides-and, Decides-eqb, Decides-like}
use Rattle.std.proofs.lemmas.Slice.Eq.{slice_eq-Decides}
use Rattle.wasm_spec.specs.declared.types.AbstractHeapType.{AbstractHeapType}
use Rattle.wasm_spec.specs.declared.types.AbstractHeapType.TheVariants as heap
use Rattle.wasm_spec.specs.TypeData.{Heap, Concrete, Abstract, Reference, ValueType, I32, I64, F32, F64, V128, Ref, Storage, I8, I16, Val, Field, Function, Composite, Func, Array, Struct, Cont, Exn, Shared, SubType, Group}
use Rattle.type_spec.specs.Same.{heap_byte, Gap, same_heap, same_reference, same_value, same_storage, same_field, same_function, same_composite, same_supertype, same_shared, same_sub_type, same_frame}

-- a test of two parts, which together determine the value
both-decide : {A B C : Type 0} (first : A → B) (second : A → C) (test : B → B → Bool) (test' : C → C → Bool)
    → ((x y : B) → Decides (test x y) (x ≡ y)) → ((x y : C) → Decides (test' x y) (x ≡ y))
    → ((a b : A) → first a ≡ first b → second a ≡ second b → a ≡ b) → (a b : A) → Decides (test (first a) (first b) && test' (second a) (second b)) (a ≡ b)
both-decide first second test test' decides decides' whole a b =
    let both = Decides-and (test (first a) (first b)) (test' (second a) (second b)) (decides (first a) (first b)) (decides' (second a) (second b)) in
    ((λ same. let parts = both.0 same in whole a b parts.0 parts.1), (λ same. both.1 (ap first same, ap second same)))

pub all-decide : {A : Type 0} (test : A → A → Bool) → ((a b : A) → Decides (test a b) (a ≡ b)) → (xs ys : List A) → Decides (pointwise test xs ys) (xs ≡ ys)
all-decide test decides xs ys = slice_eq-Decides decides xs ys _ refl

pub byte_heap : ℕ → AbstractHeapType
byte_heap n =
    if nat_eq n 0x74 then heap.NoExn else
    if nat_eq n 0x73 then heap.NoFunc else
    if nat_eq n 0x72 then heap.NoExtern else
    if nat_eq n 0x71 then heap.None else
    if nat_eq n 0x70 then heap.Func else
    if nat_eq n 0x6F then heap.Extern else
    if nat_eq n 0x6E then heap.Any else
    if nat_eq n 0x6D then heap.Eq else
    if nat_eq n 0x6C then heap.I31 else
    if nat_eq n 0x6B then heap.Struct else
    if nat_eq n 0x6A then heap.Array else
    if nat_eq n 0x69 then heap.Exn else
    if nat_eq n 0x75 then heap.NoCont else
    heap.Cont

pub byte-back : (a : AbstractHeapType) → byte_heap (heap_byte a) ≡ a
unfolding byte_heap
byte-back heap.NoExn = refl
byte-back a = refl

heap-decides : (a b : Heap Gap) → Decides (same_heap a b) (a ≡ b)
heap-decides (Concrete a) (Concrete b) = (λ same. refl, λ same. refl)
heap-decides (Abstract a) (Abstract b) =
    Decides-like _ (λ (e : heap_byte a ≡ heap_byte b). ap Abstract (sym (byte-back a) ∙ ap byte_heap e ∙ byte-back b))
    (λ same. let one : a ≡ b = cc in ap heap_byte one) (Decides-eqb (heap_byte a) (heap_byte b))
heap-decides a b = (λ same. cc, λ same. cc)

reference-decides : (a b : Reference Gap) → Decides (same_reference a b) (a ≡ b)
reference-decides =
    both-decide (λ (r : Reference Gap). r.nullable) (λ (r : Reference Gap). r.heap) beq same_heap booleans_Decides heap-decides
    (λ a b nullable heap i. record { nullable = nullable i; heap = heap i })

value-decides : (a b : ValueType Gap) → Decides (same_value a b) (a ≡ b)
value-decides I32 I32 = (λ same. refl, λ same. refl)
value-decides I64 I64 = (λ same. refl, λ same. refl)
value-decides F32 F32 = (λ same. refl, λ same. refl)
value-decides F64 F64 = (λ same. refl, λ same. refl)
value-decides V128 V128 = (λ same. refl, λ same. refl)
value-decides (Ref a) (Ref b) = let d = reference-decides a b in (λ same. ap Ref (d.0 same), λ same. d.1 (cc))
value-decides a b = (λ same. cc, λ same. cc)

storage-decides : (a b : Storage Gap) → Decides (same_storage a b) (a ≡ b)
storage-decides I8 I8 = (λ same. refl, λ same. refl)
storage-decides I16 I16 = (λ same. refl, λ same. refl)
storage-decides (Val a) (Val b) = let d = value-decides a b in (λ same. ap Val (d.0 same), λ same. d.1 (cc))
storage-decides a b = (λ same. cc, λ same. cc)

field-decides : (a b : Field Gap) → Decides (same_field a b) (a ≡ b)
field-decides =
    both-decide (λ (f : Field Gap). f.element) (λ (f : Field Gap). f.mutable) same_storage beq storage-decides booleans_Decides
    (λ a b element mutable i. record { element = element i; mutable = mutable i })

pub function-decides : (a b : Function Gap) → Decides (same_function a b) (a ≡ b)
function-decides =
    both-decide (λ (f : Function Gap). f.params) (λ (f : Function Gap). f.results) (pointwise same_value) (pointwise same_value)
    (all-decide same_value value-decides) (all-decide same_value value-decides) (λ a b params results i. record { params = params i; results = results i })

composite-decides : (a b : Composite Gap Gap) → Decides (same_composite a b) (a ≡ b)
composite-decides (Func a) (Func b) = let d = function-decides a b in (λ same. ap Func (d.0 same), λ same. d.1 (cc))
composite-decides (Array a) (Array b) = let d = field-decides a b in (λ same. ap Array (d.0 same), λ same. d.1 (cc))
composite-decides (Struct a) (Struct b) = let d = all-decide same_field field-decides a b in (λ same. ap Struct (d.0 same), λ same. d.1 (cc))
composite-decides (Cont a) (Cont b) = (λ same. refl, λ same. refl)
composite-decides (Exn a) (Exn b) =
    let d = all-decide same_field field-decides a.fields b.fields in (
      (λ same. let fields = d.0 same in λ i. Exn (record { function = tt; fields = fields i })),
      (λ same. let one : a ≡ b = cc in d.1 (λ i. (one i).fields)),
    )
composite-decides a b = (λ same. cc, λ same. cc)

supertype-decides : (a b : Option Gap) → Decides (same_supertype a b) (a ≡ b)
supertype-decides None None = (λ same. refl, λ same. refl)
supertype-decides (Some a) (Some b) = (λ same. refl, λ same. refl)
supertype-decides a b = (λ same. cc, λ same. cc)

shared-decides : (a b : Shared Gap Gap) → Decides (same_shared a b) (a ≡ b)
shared-decides =
    both-decide (λ (s : Shared Gap Gap). s.inner) (λ (s : Shared Gap Gap). s.shared) same_composite beq composite-decides booleans_Decides
    (λ a b inner shared i. record { inner = inner i; shared = shared i })

sub_type-decides : (a b : SubType Gap Gap) → Decides (same_sub_type a b) (a ≡ b)
sub_type-decides a b =
    let rest = Decides-and (same_supertype a.supertype b.supertype) (same_shared a.composite b.composite)
    (supertype-decides a.supertype b.supertype) (shared-decides a.composite b.composite) in
    let all = Decides-and (beq a.is_final b.is_final) (same_supertype a.supertype b.supertype && same_shared a.composite b.composite)
    (booleans_Decides a.is_final b.is_final) rest in (
      (λ same. let p = all.0 same in λ i. record { is_final = p.0 i; supertype = p.1.0 i; composite = p.1.1 i }),
      (λ same. all.1 ((λ i. (same i).is_final), ((λ i. (same i).supertype), (λ i. (same i).composite)))),
    )

pub frame-decides : (a b : Group Gap Gap) → Decides (same_frame a b) (a ≡ b)
frame-decides = all-decide same_sub_type sub_type-decides
