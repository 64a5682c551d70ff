-- Different frames have different bytes.
use Rattle.std.proofs.Common.{◌≡◌, ◌∙◌, ℕ, ◌+◌, ◌-◌, Bool, true, false, nat_eq, nat_lt, List, [], ◌∷◌, ◌++◌, get_or, map, Option, Some, None, if◌then◌else◌, refl, sym, ap, arith, append_assoc}
use Rattle.std.specs.Prelude.{is_some}
use Rattle.std.proofs.lemmas.Bool.{le-ltb}
use Rattle.std.specs.Option.{option_map}
use Rattle.std.specs.List.{flat_map}
use Rattle.std.proofs.lemmas.List.Folds.{flat_map-map}
use Rattle.wasm_spec.specs.TypeData.{Heap, Concrete, Abstract, ValueType, I32, I64, F32, F64, V128, Ref, Storage, I8, I16, Val, Field, Function, Composite, Func, Array, Struct, Cont, Exn, SubType, Group, map_heap, map_value, map_storage, map_field, map_composite, map_sub_type, map_group}
use Rattle.type_spec.specs.ListLaws.{map-twice}
use Rattle.type_spec.specs.Same.{Gap}
use Rattle.type_spec.specs.Tests.{byte_heap, byte-back}
use Rattle.form_types.specs.Codes.{flag, ended, heap_code, value_code, storage_code, field_codes, function_codes, fields_codes, composite_codes, sub_type_codes, group_codes}

-- ---- codes do not depend on references
module _ {H H' : Type 0} (h : H → H') where
  heap-mapped : (x : Heap H) → heap_code (map_heap h x) ≡ heap_code x
  heap-mapped x = grind arith

  value-mapped : (x : ValueType H) → value_code (map_value h x) ≡ value_code x
  value-mapped x = grind (arith, heap-mapped)

  storage-mapped : (x : Storage H) → storage_code (map_storage h x) ≡ storage_code x
  storage-mapped x = grind (arith, value-mapped)

  field-mapped : (x : Field H) → field_codes (map_field h x) ≡ field_codes x
  field-mapped x = ap (λ n. n ∷ flag x.mutable ∷ []) (storage-mapped x.element)

  values-mapped : (xs : List (ValueType H)) → map value_code (map (map_value h) xs) ≡ map value_code xs
  values-mapped xs = map-twice (map_value h) value_code value_code value-mapped xs

  fields-mapped : (xs : List (Field H)) → flat_map field_codes (map (map_field h) xs) ≡ flat_map field_codes xs
  fields-mapped xs = flat_map-map field_codes (map_field h) xs ∙ (λ i. flat_map (λ x. field-mapped x i) xs)

  module _ {R R' : Type 0} (f : R → R') where
    composite-mapped : (x : Composite H R) → composite_codes (map_composite h f x) ≡ composite_codes x
    composite-mapped (Func t) = λ i. 0x60 ∷ (ended (values-mapped t.params i) ++ ended (values-mapped t.results i))
    composite-mapped (Array t) = λ i. 0x5E ∷ field-mapped t i
    composite-mapped (Struct ts) = λ i. 0x5F ∷ ended (fields-mapped ts i)
    composite-mapped (Cont r) = refl
    composite-mapped (Exn t) = λ i. 0x5C ∷ ended (fields-mapped t.fields i)

    supertype-mapped : (x : Option R) → is_some (option_map f x) ≡ is_some x
    supertype-mapped x = grind arith

    sub_type-mapped : (x : SubType H R) → sub_type_codes (map_sub_type h f x) ≡ sub_type_codes x
    sub_type-mapped x = λ i. flag x.is_final ∷ flag (supertype-mapped x.supertype i) ∷ flag x.composite.shared ∷ composite-mapped x.composite.inner i

    pub group-mapped : (x : Group H R) → group_codes (map_group h f x) ≡ group_codes x
    group-mapped x = flat_map-map sub_type_codes (map_sub_type h f) x ∙ (λ i. flat_map (λ t. sub_type-mapped t i) x)

-- ---- a code is that of one storage type, and not the end mark
heap_of : ℕ → Heap Gap
heap_of n = if nat_eq n 0x60 then Concrete tt else Abstract (byte_heap n)

plain_of : ℕ → Storage Gap
plain_of n =
    if nat_eq n 0x7F then Val I32 else
    if nat_eq n 0x7E then Val I64 else
    if nat_eq n 0x7D then Val F32 else
    if nat_eq n 0x7C then Val F64 else
    if nat_eq n 0x7B then Val V128 else
    if nat_eq n 0x78 then I8 else
    I16

abbrev to : Bool → Heap Gap → Option (Storage Gap)
to nullable h = Some (Val (Ref (record { nullable = nullable; heap = h })))

decode : ℕ → Option (Storage Gap)
decode n =
    if nat_lt n 0x60 then None else
    if nat_lt n 0x76 then to true (heap_of n) else
    if nat_lt n 0x80 then Some (plain_of n) else
    to false (heap_of (n - 128))

-- the code of a heap type, which is that of a nullable reference
record IsHeapCode (h : Heap Gap) : Type 0 where
  pub low : nat_lt (heap_code h) 0x60 ≡ false
  pub high : nat_lt (heap_code h) 0x76 ≡ true
  pub back : heap_of (heap_code h) ≡ h

heap-back : (h : Heap Gap) → IsHeapCode h
unfolding heap_of
heap-back x = grind (arith, byte-back)

reference-back : (nullable : Bool) (h : Heap Gap) → decode (value_code (Ref (record { nullable = nullable; heap = h }))) ≡ to nullable h
unfolding decode
reference-back true h =
    let is = heap-back h in
    rw (is.low, is.high) (ap (to true) is.back)
reference-back false h =
    let is = heap-back h in
    let n = heap_code h + 128 in
    let a : nat_lt n 0x60 ≡ false = le-ltb n 0x60 (omega arith) in
    let b : nat_lt n 0x76 ≡ false = le-ltb n 0x76 (omega arith) in
    let c : nat_lt n 0x80 ≡ false = le-ltb n 0x80 (omega arith) in
    let back : n - 128 ≡ heap_code h = omega arith in
    rw (a, b, c, back) (ap (to false) is.back)

storage-back : (x : Storage Gap) → decode (storage_code x) ≡ Some x
unfolding decode plain_of
storage-back (Val (Ref r)) = reference-back r.nullable r.heap
storage-back x = refl

no_end : decode 0x0B ≡ None
unfolding decode
no_end = refl

-- ---- bytes determine what they begin with
flag-told : (a b : Bool) → flag a ≡ flag b → a ≡ b
flag-told a b same = grind arith

storage-told : (x y : Storage Gap) → storage_code x ≡ storage_code y → x ≡ y
storage-told x y same = let one : Some x ≡ Some y = sym (storage-back x) ∙ ap decode same ∙ storage-back y in cc

not-end : (x : Storage Gap) → storage_code x ≡ 0x0B → ⊥
not-end x same = let one : Some x ≡ None = sym (storage-back x) ∙ ap decode same ∙ no_end in cc

value-told : (x y : ValueType Gap) → value_code x ≡ value_code y → x ≡ y
value-told x y same = let one : Val x ≡ Val y = storage-told (Val x) (Val y) same in cc

first-of : (a b : ℕ) (r s : List ℕ) → a ∷ r ≡ b ∷ s → (a ≡ b) × (r ≡ s)
first-of a b r s same = grind arith

values-told : (xs ys : List (ValueType Gap)) (r s : List ℕ) → ended (map value_code xs) ++ r ≡ ended (map value_code ys) ++ s → (xs ≡ ys) × (r ≡ s)
values-told [] [] r s same = (refl, (first-of _ _ r s same).1)
values-told [] (y ∷ ys) r s same = absurd (not-end (Val y) (sym ((first-of _ _ _ _ same).0)))
values-told (x ∷ xs) [] r s same = absurd (not-end (Val x) ((first-of _ _ _ _ same).0))
values-told (x ∷ xs) (y ∷ ys) r s same =
    let both = first-of _ _ _ _ same in
    let head = value-told x y both.0 in
    let rest = values-told xs ys r s both.1 in
    ((λ i. head i ∷ rest.0 i), rest.1)

field-told : (x y : Field Gap) (r s : List ℕ) → field_codes x ++ r ≡ field_codes y ++ s → (x ≡ y) × (r ≡ s)
field-told x y r s same =
    let first = first-of _ _ _ _ same in
    let second = first-of _ _ _ _ first.1 in
    let element = storage-told x.element y.element first.0 in
    let mutable = flag-told x.mutable y.mutable second.0 in
    ((λ i. record { element = element i; mutable = mutable i }), second.1)

fields-told : (xs ys : List (Field Gap)) (r s : List ℕ) → fields_codes xs ++ r ≡ fields_codes ys ++ s → (xs ≡ ys) × (r ≡ s)
fields-told [] [] r s same = (refl, (first-of _ _ r s same).1)
fields-told [] (y ∷ ys) r s same = absurd (not-end y.element (sym ((first-of _ _ _ _ same).0)))
fields-told (x ∷ xs) [] r s same = absurd (not-end x.element ((first-of _ _ _ _ same).0))
fields-told (x ∷ xs) (y ∷ ys) r s same =
    let both = field-told x y (fields_codes xs ++ r) (fields_codes ys ++ s) same in
    let rest = fields-told xs ys r s both.1 in
    ((λ i. both.0 i ∷ rest.0 i), rest.1)

function-told : (x y : Function Gap) (r s : List ℕ) → function_codes x ++ r ≡ function_codes y ++ s → (x ≡ y) × (r ≡ s)
function-told x y r s same = grind (arith, append_assoc, values-told)

composite-told : (x y : Composite Gap Gap) (r s : List ℕ) → composite_codes x ++ r ≡ composite_codes y ++ s → (x ≡ y) × (r ≡ s)
composite-told (Func x) (Func y) r s same = let both = function-told x y r s (first-of _ _ _ _ same).1 in (ap Func both.0, both.1)
composite-told (Array x) (Array y) r s same = let both = field-told x y r s (first-of _ _ _ _ same).1 in (ap Array both.0, both.1)
composite-told (Struct x) (Struct y) r s same = let both = fields-told x y r s (first-of _ _ _ _ same).1 in (ap Struct both.0, both.1)
composite-told (Cont x) (Cont y) r s same = (refl, (first-of _ _ _ _ same).1)
composite-told (Exn x) (Exn y) r s same =
    let both = fields-told x.fields y.fields r s (first-of _ _ _ _ same).1 in ((λ i. Exn (record { function = tt; fields = both.0 i })), both.1)
composite-told x y r s same = let off = ap (λ l. get_or l 0 0) same in absurd (omega arith)

supertype-told : (x y : Option Gap) → is_some x ≡ is_some y → x ≡ y
supertype-told x y same = grind arith

sub_type-told : (x y : SubType Gap Gap) (r s : List ℕ) → sub_type_codes x ++ r ≡ sub_type_codes y ++ s → (x ≡ y) × (r ≡ s)
sub_type-told x y r s same = grind (arith, composite-told, flag-told, supertype-told)

-- groups without references are one where their bytes are
pub group-told : (x y : Group Gap Gap) → group_codes x ≡ group_codes y → x ≡ y
group-told [] [] same = refl
group-told [] (t ∷ ts) same = cc
group-told (t ∷ ts) [] same = cc
group-told (t ∷ ts) (u ∷ us) same = grind (arith, sub_type-told, group-told ts us)
