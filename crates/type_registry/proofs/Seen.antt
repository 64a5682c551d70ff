-- All data of types is that of some type.
use Rattle.std.proofs.Common.{◌≡◌, ◌∙◌, List, [], ◌∷◌, map, refl, sym, ap}
use Rattle.wasm_spec.specs.TypeData as types
use Rattle.wasm_types.specs.declared.index.EngineOrModuleTypeIndex.{EngineOrModuleTypeIndex}
use Rattle.wasm_types.specs.declared.value.WasmValType.TheVariants as val
use Rattle.wasm_types.specs.declared.field.WasmStorageType.TheVariants as storage
use Rattle.wasm_types.specs.declared.composite.WasmCompositeInnerType.TheVariants as inner
use Rattle.wasm_types.specs.ValueViews.{Name, value_of, storage_of, field_of}
use Rattle.wasm_types.specs.TypeViews.{composite_of, sub_type_of, group_of}
use Rattle.wasm_types.specs.ViewsTell.{heap_from, heap-is, group_back}

record Seen {A B : Type 0} (view : A → B) (seen : B) : Type 0 where
  pub from : A
  pub is : view from ≡ seen

all-seen : {A B : Type 0} (view : A → B) → ((y : B) → Seen view y) → (ys : List B) → Seen (map view) ys
all-seen view each [] = record { from = []; is = refl }
all-seen view each (y ∷ ys) = let rest = all-seen view each ys in record { from = (each y).from ∷ rest.from; is = λ i. (each y).is i ∷ rest.is i }

seen-value : (v : types.ValueType Name) → Seen value_of v
seen-value types.I32 = record { from = val.I32; is = refl }
seen-value types.I64 = record { from = val.I64; is = refl }
seen-value types.F32 = record { from = val.F32; is = refl }
seen-value types.F64 = record { from = val.F64; is = refl }
seen-value types.V128 = record { from = val.V128; is = refl }
seen-value (types.Ref r) = record { from = val.Ref (record { nullable = r.nullable; heap_type = heap_from r.heap }); is = λ i. types.Ref (record r { heap = heap-is r.heap i }) }

seen-storage : (s : types.Storage Name) → Seen storage_of s
seen-storage types.I8 = record { from = storage.I8; is = refl }
seen-storage types.I16 = record { from = storage.I16; is = refl }
seen-storage (types.Val v) = let w = seen-value v in record { from = storage.Val w.from; is = ap types.Val w.is }

seen-field : (f : types.Field Name) → Seen field_of f
seen-field f = let s = seen-storage f.element in record { from = record { element_type = s.from; mutable = f.mutable }; is = λ i. record f { element = s.is i } }

seen-composite : (c : types.Composite Name EngineOrModuleTypeIndex) → Seen composite_of c
seen-composite (types.Func f) =
    let params = all-seen value_of seen-value f.params in
    let results = all-seen value_of seen-value f.results in
    record { from = inner.Func (record { params = params.from; results = results.from }); is = λ i. types.Func (record { params = params.is i; results = results.is i }) }
seen-composite (types.Array f) = let s = seen-field f in record { from = inner.Array (record { 0 = s.from }); is = ap types.Array s.is }
seen-composite (types.Struct fs) = let s = all-seen field_of seen-field fs in record { from = inner.Struct s.from; is = ap types.Struct s.is }
seen-composite (types.Cont r) = record { from = inner.Cont (record { 0 = r }); is = refl }
seen-composite (types.Exn e) =
    let fields = all-seen field_of seen-field e.fields in
    record { from = inner.Exn (record { func_ty = e.function; fields = fields.from }); is = λ i. types.Exn (record e { fields = fields.is i }) }

seen-type : (t : types.SubType Name EngineOrModuleTypeIndex) → Seen sub_type_of t
seen-type t =
    let c = seen-composite t.composite.inner in
    record {
      from = record { is_final = t.is_final; supertype = t.supertype; composite_type = record { inner = c.from; shared = t.composite.shared } };
      is = λ i. record t { composite = record t.composite { inner = c.is i } };
    }

-- the group of data is one that has this data
pub had-back : (d : types.Group Name EngineOrModuleTypeIndex) → group_of (group_back.back d) ≡ d
had-back d =
    let s = all-seen sub_type_of seen-type d in
    ap (λ x. group_of (group_back.back x)) (sym s.is) ∙ ap group_of (group_back.is s.from) ∙ s.is
