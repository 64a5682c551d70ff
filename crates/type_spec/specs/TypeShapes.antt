-- The laws of types as data: each of its parts has a shape.
use Rattle.std.specs.Prelude.{List, [], ◌∷◌, ◌++◌, map, Option, Some, None}
use Rattle.std.specs.List.{flat_map}
use Rattle.std.specs.Option.{option_map, option_to_list}
use Rattle.std.proofs.Common.{◌≡◌, ◌∙◌, refl, sym, ap}
use Rattle.std.proofs.lemmas.List.{map-append}
use Rattle.wasm_spec.specs.TypeData.{Heap, Concrete, Abstract, Reference, ValueType, I32, I64, F32, F64, V128, Ref, Storage, I8, I16, Val, Field, Function, Exception, Composite, Func, Array, Struct, Cont, Exn, Shared, SubType, Group, map_heap, map_reference, map_value, map_storage, map_field, map_function, map_exception, map_composite, map_shared, map_sub_type, heap_edges, reference_edges, value_edges, storage_edges, field_edges, function_edges, exception_edges, composite_edges, shared_edges, sub_type_edges}
use Rattle.type_spec.specs.ListLaws.{front-same, back-same}
use Rattle.type_spec.specs.Shapes.{Shape, Tells, erased, edge_count, listed}

-- ---- nothing changes where each name is replaced by itself
module _ {H : Type 0} where
  pub heap-same : (x : Heap H) → map_heap (λ a. a) x ≡ x
  heap-same (Concrete a) = refl
  heap-same (Abstract h) = refl

  pub value-same : (x : ValueType H) → map_value (λ a. a) x ≡ x
  value-same (Ref x) = ap Ref (λ i. record x { heap = heap-same x.heap i })
  value-same x = refl

  pub storage-same : (x : Storage H) → map_storage (λ a. a) x ≡ x
  storage-same (Val x) = ap Val (value-same x)
  storage-same x = refl

-- ---- replacing twice is replacing once
module _ {A B C : Type 0} (f : A → B) (g : B → C) where
  pub heap-twice : (x : Heap A) → map_heap g (map_heap f x) ≡ map_heap (λ a. g (f a)) x
  heap-twice (Concrete a) = refl
  heap-twice (Abstract h) = refl

  pub value-twice : (x : ValueType A) → map_value g (map_value f x) ≡ map_value (λ a. g (f a)) x
  value-twice (Ref x) = ap Ref (λ i. record { nullable = x.nullable; heap = heap-twice x.heap i })
  value-twice I32 = refl
  value-twice I64 = refl
  value-twice F32 = refl
  value-twice F64 = refl
  value-twice V128 = refl

  pub storage-twice : (x : Storage A) → map_storage g (map_storage f x) ≡ map_storage (λ a. g (f a)) x
  storage-twice (Val x) = ap Val (value-twice x)
  storage-twice I8 = refl
  storage-twice I16 = refl

-- ---- the edges of what was replaced are the edges, replaced
module _ {H H' R R' : Type 0} (index : H → R) (index' : H' → R') (h : H → H') (f : R → R') (each : (a : H) → index' (h a) ≡ f (index a)) where
  pub heap-edges : (x : Heap H) → heap_edges index' (map_heap h x) ≡ map f (heap_edges index x)
  heap-edges (Concrete a) = λ i. each a i ∷ []
  heap-edges (Abstract x) = refl

  pub value-edges : (x : ValueType H) → value_edges index' (map_value h x) ≡ map f (value_edges index x)
  value-edges (Ref x) = heap-edges x.heap
  value-edges I32 = refl
  value-edges I64 = refl
  value-edges F32 = refl
  value-edges F64 = refl
  value-edges V128 = refl

  pub storage-edges : (x : Storage H) → storage_edges index' (map_storage h x) ≡ map f (storage_edges index x)
  storage-edges (Val x) = value-edges x
  storage-edges I8 = refl
  storage-edges I16 = refl

-- ---- frame and edges determine the value
module _ {H K R : Type 0} (kind : H → K) (index : H → R) (tells : Tells kind index) where
  pub heap-determined : (x y : Heap H) → map_heap kind x ≡ map_heap kind y → heap_edges index x ≡ heap_edges index y → x ≡ y
  heap-determined (Concrete a) (Concrete b) frames all =
      let whole : Concrete (kind a) ≡ Concrete (kind b) = frames in
      let list : index a ∷ [] ≡ index b ∷ [] = all in
      let kinds : kind a ≡ kind b = cc in
      let indices : index a ≡ index b = cc in
      ap Concrete (tells a b kinds indices)
  heap-determined (Abstract x) (Abstract y) frames all =
      let same : x ≡ y = cc in
      ap Abstract same
  heap-determined x y frames all = cc

  pub reference-determined : (x y : Reference H) → map_reference kind x ≡ map_reference kind y → reference_edges index x ≡ reference_edges index y
      → x ≡ y
  reference-determined x y frames all =
      let heap = heap-determined x.heap y.heap (ap (λ r. r.heap) frames) all in
      let nullable : x.nullable ≡ y.nullable = ap (λ r. r.nullable) frames in
      λ i. record { nullable = nullable i; heap = heap i }

  pub value-determined : (x y : ValueType H) → map_value kind x ≡ map_value kind y → value_edges index x ≡ value_edges index y → x ≡ y
  value-determined I32 I32 frames all = refl
  value-determined I64 I64 frames all = refl
  value-determined F32 F32 frames all = refl
  value-determined F64 F64 frames all = refl
  value-determined V128 V128 frames all = refl
  value-determined (Ref x) (Ref y) frames all =
      let whole : Ref (map_reference kind x) ≡ Ref (map_reference kind y) = frames in
      let inner : map_reference kind x ≡ map_reference kind y = cc in
      ap Ref (reference-determined x y inner all)
  value-determined x y frames all = cc

  pub storage-determined : (x y : Storage H) → map_storage kind x ≡ map_storage kind y → storage_edges index x ≡ storage_edges index y → x ≡ y
  storage-determined I8 I8 frames all = refl
  storage-determined I16 I16 frames all = refl
  storage-determined (Val x) (Val y) frames all =
      let whole : Val (map_value kind x) ≡ Val (map_value kind y) = frames in
      let inner : map_value kind x ≡ map_value kind y = cc in
      ap Val (value-determined x y inner all)
  storage-determined x y frames all = cc

  pub field-determined : (x y : Field H) → map_field kind x ≡ map_field kind y → field_edges index x ≡ field_edges index y → x ≡ y
  field-determined x y frames all =
      let element = storage-determined x.element y.element (ap (λ r. r.element) frames) all in
      let mutable : x.mutable ≡ y.mutable = ap (λ r. r.mutable) frames in
      λ i. record { element = element i; mutable = mutable i }

-- ---- the parts that hold no list
abbrev pub heap_shape : Shape (λ H R. Heap H)
heap_shape = record {
  map = λ h f x. map_heap h x;
  edges = λ index x. heap_edges index x;
  map_same = heap-same;
  map_twice = λ h h' f f' x. heap-twice h h' x;
  edges_map = heap-edges;
  determined = heap-determined;
}

abbrev pub reference_shape : Shape (λ H R. Reference H)
reference_shape = record {
  map = λ h f x. map_reference h x;
  edges = λ index x. reference_edges index x;
  map_same = λ x. λ i. record { nullable = x.nullable; heap = heap-same x.heap i };
  map_twice = λ h h' f f' x. λ i. record { nullable = x.nullable; heap = heap-twice h h' x.heap i };
  edges_map = λ index index' h f each x. heap-edges index index' h f each x.heap;
  determined = reference-determined;
}

abbrev pub value_shape : Shape (λ H R. ValueType H)
value_shape = record {
  map = λ h f x. map_value h x;
  edges = λ index x. value_edges index x;
  map_same = value-same;
  map_twice = λ h h' f f' x. value-twice h h' x;
  edges_map = value-edges;
  determined = value-determined;
}

abbrev pub storage_shape : Shape (λ H R. Storage H)
storage_shape = record {
  map = λ h f x. map_storage h x;
  edges = λ index x. storage_edges index x;
  map_same = storage-same;
  map_twice = λ h h' f f' x. storage-twice h h' x;
  edges_map = storage-edges;
  determined = storage-determined;
}

abbrev pub field_shape : Shape (λ H R. Field H)
field_shape = record {
  map = λ h f x. map_field h x;
  edges = λ index x. field_edges index x;
  map_same = λ x. λ i. record { element = storage-same x.element i; mutable = x.mutable };
  map_twice = λ h h' f f' x. λ i. record { element = storage-twice h h' x.element i; mutable = x.mutable };
  edges_map = λ index index' h f each x. storage-edges index index' h f each x.element;
  determined = field-determined;
}

abbrev pub fields_shape : Shape (λ H R. List (Field H))
fields_shape = listed field_shape

abbrev pub values_shape : Shape (λ H R. List (ValueType H))
values_shape = listed value_shape

-- ---- the parts that hold lists
pub option-same : {R : Type 0} (x : Option R) → option_map (λ r. r) x ≡ x
option-same None = refl
option-same (Some r) = refl

pub option-twice : {A B C : Type 0} (f : A → B) (g : B → C) (x : Option A) → option_map g (option_map f x) ≡ option_map (λ a. g (f a)) x
option-twice f g None = refl
option-twice f g (Some r) = refl

pub option-edges : {A B : Type 0} (f : A → B) (x : Option A) → option_to_list (option_map f x) ≡ map f (option_to_list x)
option-edges f None = refl
option-edges f (Some r) = refl

pub option-determined : {R : Type 0} (x y : Option R) → option_map erased x ≡ option_map erased y
    → option_to_list x ≡ option_to_list y → x ≡ y
option-determined None None frames all = refl
option-determined (Some a) (Some b) frames all =
    let list : a ∷ [] ≡ b ∷ [] = all in
    let same : a ≡ b = cc in
    ap Some same
option-determined x y frames all = cc

abbrev pub option_shape : Shape (λ H R. Option R)
option_shape = record {
  map = λ h f x. option_map f x;
  edges = λ index x. option_to_list x;
  map_same = option-same;
  map_twice = λ h h' f f' x. option-twice f f' x;
  edges_map = λ index index' h f each x. option-edges f x;
  determined = λ kind index tells x y frames all. option-determined x y frames all;
}

-- what holds of two parts, the edges of one before those of the other
module _ {T U : Type 0 → Type 0 → Type 0} (s : Shape T) (u : Shape U) where
  pub both-edges : {H H' R R' : Type 0} (index : H → R) (index' : H' → R') (h : H → H') (f : R → R') → ((a : H) → index' (h a) ≡ f (index a))
      → (x : T H R) (y : U H R)
      → s.edges index' (s.map h f x) ++ u.edges index' (u.map h f y) ≡ map f (s.edges index x ++ u.edges index y)
  both-edges index index' h f each x y =
      (λ i. s.edges_map index index' h f each x i ++ u.edges_map index index' h f each y i)
      ∙ sym (map-append f (s.edges index x) (u.edges index y))

  module _ {H K R : Type 0} (kind : H → K) (index : H → R) (tells : Tells kind index) (x x' : T H R) (y y' : U H R)
      (first : s.map kind (erased {R = R}) x ≡ s.map kind (erased {R = R}) x')
      (all : s.edges index x ++ u.edges index y ≡ s.edges index x' ++ u.edges index y') where
    pub first-determined : x ≡ x'
    first-determined = s.determined kind index tells x x' first
        (front-same (s.edges index x) (s.edges index x') (u.edges index y) (u.edges index y') (edge_count s kind index x x' first) all)

    pub second-determined : u.map kind (erased {R = R}) y ≡ u.map kind (erased {R = R}) y' → y ≡ y'
    second-determined second = u.determined kind index tells y y' second
        (back-same (s.edges index x) (s.edges index x') (u.edges index y) (u.edges index y') (edge_count s kind index x x' first) all)

abbrev pub function_shape : Shape (λ H R. Function H)
function_shape = record {
  map = λ h f x. map_function h x;
  edges = λ index x. function_edges index x;
  map_same = λ {H} {R} x. λ i. record {
    params = values_shape.map_same {R = R} x.params i;
    results = values_shape.map_same {R = R} x.results i;
  };
  map_twice = λ h h' f f' x. λ i. record {
    params = values_shape.map_twice h h' f f' x.params i;
    results = values_shape.map_twice h h' f f' x.results i;
  };
  edges_map = λ index index' h f each x. both-edges values_shape values_shape index index' h f each x.params x.results;
  determined = λ kind index tells x y frames all.
      let in_params = ap (λ t. t.params) frames in
      let in_results = ap (λ t. t.results) frames in
      let params = first-determined values_shape values_shape kind index tells x.params y.params x.results y.results in_params all in
      let results = second-determined values_shape values_shape kind index tells x.params y.params x.results y.results in_params all in_results in
      λ i. record { params = params i; results = results i };
}

pub exception-determined : {H K R : Type 0} (kind : H → K) (index : H → R) → Tells kind index → (x y : Exception H R)
    → map_exception kind (erased {R = R}) x ≡ map_exception kind (erased {R = R}) y → exception_edges index x ≡ exception_edges index y → x ≡ y
exception-determined kind index tells x y frames all =
    let list : x.function ∷ flat_map (field_edges index) x.fields ≡ y.function ∷ flat_map (field_edges index) y.fields = all in
    let function : x.function ≡ y.function = cc in
    let rest : flat_map (field_edges index) x.fields ≡ flat_map (field_edges index) y.fields = cc in
    let fields = fields_shape.determined kind index tells x.fields y.fields (ap (λ t. t.fields) frames) rest in
    λ i. record { function = function i; fields = fields i }

abbrev pub exception_shape : Shape Exception
exception_shape = record {
  map = λ h f x. map_exception h f x;
  edges = λ index x. exception_edges index x;
  map_same = λ {H} {R} x. λ i. record { function = x.function; fields = fields_shape.map_same {R = R} x.fields i };
  map_twice = λ h h' f f' x. λ i. record { function = f' (f x.function); fields = fields_shape.map_twice h h' f f' x.fields i };
  edges_map = λ index index' h f each x. λ i. f x.function ∷ fields_shape.edges_map index index' h f each x.fields i;
  determined = exception-determined;
}

pub composite-same : {H R : Type 0} (x : Composite H R) → map_composite (λ a. a) (λ r. r) x ≡ x
composite-same {R = R} (Func x) = ap Func (function_shape.map_same {R = R} x)
composite-same {R = R} (Array x) = ap Array (field_shape.map_same {R = R} x)
composite-same {R = R} (Struct x) = ap Struct (fields_shape.map_same {R = R} x)
composite-same (Cont x) = refl
composite-same (Exn x) = ap Exn (exception_shape.map_same x)

pub composite-twice : {H H' H'' R R' R'' : Type 0} (h : H → H') (h' : H' → H'') (f : R → R') (f' : R' → R'') (x : Composite H R)
    → map_composite h' f' (map_composite h f x) ≡ map_composite (λ a. h' (h a)) (λ r. f' (f r)) x
composite-twice h h' f f' (Func x) = ap Func (function_shape.map_twice h h' f f' x)
composite-twice h h' f f' (Array x) = ap Array (field_shape.map_twice h h' f f' x)
composite-twice h h' f f' (Struct x) = ap Struct (fields_shape.map_twice h h' f f' x)
composite-twice h h' f f' (Cont x) = refl
composite-twice h h' f f' (Exn x) = ap Exn (exception_shape.map_twice h h' f f' x)

pub composite-edges : {H H' R R' : Type 0} (index : H → R) (index' : H' → R') (h : H → H') (f : R → R')
    → ((a : H) → index' (h a) ≡ f (index a)) → (x : Composite H R)
    → composite_edges index' (map_composite h f x) ≡ map f (composite_edges index x)
composite-edges index index' h f each (Func x) = function_shape.edges_map index index' h f each x
composite-edges index index' h f each (Array x) = field_shape.edges_map index index' h f each x
composite-edges index index' h f each (Struct x) = fields_shape.edges_map index index' h f each x
composite-edges index index' h f each (Cont x) = refl
composite-edges index index' h f each (Exn x) = exception_shape.edges_map index index' h f each x

module _ {H K R : Type 0} (kind : H → K) (index : H → R) (tells : Tells kind index) where
  pub composite-determined : (x y : Composite H R) → map_composite kind (erased {R = R}) x ≡ map_composite kind (erased {R = R}) y
      → composite_edges index x ≡ composite_edges index y → x ≡ y
  composite-determined (Func x) (Func y) frames all =
      let inner : map_function kind x ≡ map_function kind y = cc in
      ap Func (function_shape.determined kind index tells x y inner all)
  composite-determined (Array x) (Array y) frames all =
      let inner : map_field kind x ≡ map_field kind y = cc in
      ap Array (field_shape.determined kind index tells x y inner all)
  composite-determined (Struct x) (Struct y) frames all =
      let inner : map (map_field kind) x ≡ map (map_field kind) y = cc in
      ap Struct (fields_shape.determined kind index tells x y inner all)
  composite-determined (Cont x) (Cont y) frames all =
      let list : x ∷ [] ≡ y ∷ [] = all in
      let same : x ≡ y = cc in
      ap Cont same
  composite-determined (Exn x) (Exn y) frames all =
      let inner : map_exception kind (erased {R = R}) x ≡ map_exception kind (erased {R = R}) y = cc in
      ap Exn (exception-determined kind index tells x y inner all)
  composite-determined x y frames all = cc

abbrev pub shared_shape : Shape Shared
shared_shape = record {
  map = λ h f x. map_shared h f x;
  edges = λ index x. shared_edges index x;
  map_same = λ x. λ i. record { inner = composite-same x.inner i; shared = x.shared };
  map_twice = λ h h' f f' x. λ i. record { inner = composite-twice h h' f f' x.inner i; shared = x.shared };
  edges_map = λ index index' h f each x. composite-edges index index' h f each x.inner;
  determined = λ kind index tells x y frames all.
      let inner = composite-determined kind index tells x.inner y.inner (ap (λ t. t.inner) frames) all in
      let shared : x.shared ≡ y.shared = ap (λ t. t.shared) frames in
      λ i. record { inner = inner i; shared = shared i };
}

abbrev pub sub_type_shape : Shape SubType
sub_type_shape = record {
  map = λ h f x. map_sub_type h f x;
  edges = λ index x. sub_type_edges index x;
  map_same = λ x. λ i. record { is_final = x.is_final; supertype = option-same x.supertype i; composite = shared_shape.map_same x.composite i };
  map_twice = λ h h' f f' x. λ i. record {
    is_final = x.is_final;
    supertype = option-twice f f' x.supertype i;
    composite = shared_shape.map_twice h h' f f' x.composite i;
  };
  edges_map = λ index index' h f each x. both-edges option_shape shared_shape index index' h f each x.supertype x.composite;
  determined = λ kind index tells x y frames all.
      let is_final : x.is_final ≡ y.is_final = ap (λ t. t.is_final) frames in
      let in_supertype = ap (λ t. t.supertype) frames in
      let in_composite = ap (λ t. t.composite) frames in
      let supertype = first-determined option_shape shared_shape kind index tells x.supertype y.supertype x.composite y.composite in_supertype all in
      let composite =
      second-determined option_shape shared_shape kind index tells x.supertype y.supertype x.composite y.composite in_supertype all in_composite in
      λ i. record { is_final = is_final i; supertype = supertype i; composite = composite i };
}

abbrev pub group_shape : Shape (λ H R. Group H R)
group_shape = listed sub_type_shape
