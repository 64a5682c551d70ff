-- Where no object of a declared type and no exception of a tag is too large, the context is.
use Rattle.std.proofs.Common.{◌≡◌, ◌∙◌, ℕ, zero, suc, ◌<◌, ◌≤◌, Bool, true, false, List, [], ◌∷◌, ◌++◌, length, Some, inl, inr, refl, sym, ap, arith}
use Rattle.std.specs.Prelude.{Contains, slice_get}
use Rattle.std.proofs.lemmas.Bool.{cases_lt}
use Rattle.std.proofs.lemmas.Option.{slice_get-get_or}
use Rattle.wasm_spec.specs.Module.{Module}
use Rattle.type_spec.specs.Names.{FuncName}
use Rattle.type_spec.specs.Interned.{Interned, kind_of_type, composite_at, startup_type}
use Rattle.wasm_types.specs.declared.sub.WasmSubType.{WasmSubType}
use Rattle.wasm_types.specs.declared.composite.WasmCompositeInnerType.{WasmCompositeInnerType}
use Rattle.wasm_types.specs.declared.composite.WasmCompositeInnerType.TheVariants as inner
use Rattle.module_types.specs.Views.{interned_of, inner_of}
use Rattle.gc_layout.specs.Objects.{gc_layout_of, fixed_size}
use Rattle.interned_types.specs.Types.{interned_list}
use Rattle.translate.specs.Contexts.{Overflows}
use Rattle.translate.specs.Options.{Options, header_size, startup_by, runs}
use Rattle.plan_excess.specs.Large.{IsLargeAt, IsLargeContext, HasSmallObjects, HasSmallExceptions}
use Rattle.plan_excess.proofs.EachInterned.{HasOrigin, origin}
use Rattle.plan_excess.proofs.LargeTypes.{listed-front}

-- ---- functions are no objects

no-object : (header : ℕ) (c : WasmCompositeInnerType) → kind_of_type (inner_of c) ≡ FuncName → fixed_size (gc_layout_of header c) ≡ 0
no-object header (inner.Func f) is = refl
no-object header (inner.Cont i) is = refl
no-object header (inner.Array t) is = absurd cc
no-object header (inner.Struct t) is = absurd cc
no-object header (inner.Exn t) is = absurd cc

composite-is : (ts : List Interned) (k : ℕ) (t : Interned) → slice_get ts k ≡ Some t → composite_at ts k ≡ t.composite.inner
composite-is [] k t at = absurd cc
composite-is (u ∷ ts) zero t at = let same : u ≡ t = cc in ap (λ (x : Interned). x.composite.inner) same
composite-is (u ∷ ts) (suc k) t at = composite-is ts k t at

last-is : (xs : List Interned) (x y : Interned) (k : ℕ) → length xs ≤ k → slice_get (xs ++ x ∷ []) k ≡ Some y → x ≡ y
last-is [] x y zero le at = cc
last-is [] x y (suc k) le at = absurd cc
last-is (z ∷ xs) x y zero le at = absurd (omega (arith, le))
last-is (z ∷ xs) x y (suc k) le at = last-is xs x y k (omega (arith, le)) at

-- ---- a large object is that of a declared type, or of the exception type of a tag

module _ (o : Options) (m : Module) (objects : HasSmallObjects o.collector m) (exceptions : HasSmallExceptions o.collector m) where
  abbrev size : WasmSubType → ℕ
  size t = fixed_size (gc_layout_of (header_size o.collector) t.composite_type.inner)

  abbrev listed : List Interned
  listed = (interned_list m false).types

  function-small : (t : WasmSubType) → kind_of_type (interned_of t).composite.inner ≡ FuncName → 4294967295 < size t → ⊥
  function-small t is large = omega (arith, large, no-object (header_size o.collector) t.composite_type.inner is)

  none-large : (k : ℕ) → HasOrigin m k → IsLargeAt o.collector m k → ⊥
  none-large k (inl x) large =
      objects x.index (record { declared = x.below; large = coe 1 0 (j. IsLargeAt o.collector m (x.number j)) large })
  none-large k (inr (inl function)) large =
      function-small large.type (ap (λ c. kind_of_type c) (sym (composite-is listed k (interned_of large.type) large.interned)) ∙ function) large.large
  none-large k (inr (inr x)) large =
      exceptions x.tag (record { function = x.function; stands = x.stands; large = coe 1 0 (j. IsLargeAt o.collector m (x.number j)) large })

  -- past the others there is only the startup type
  startup-small : (startup : Bool) (k : ℕ) (t : WasmSubType) → length (interned_list m false).types ≤ k
      → slice_get (interned_list m startup).types k ≡ Some (interned_of t) → k < length (interned_list m startup).types → 4294967295 < size t → ⊥
  startup-small false k t past at lt large = omega (arith, past, lt)
  startup-small true k t past at lt large =
      let last : startup_type ≡ interned_of t = last-is listed startup_type (interned_of t) k past at in
      function-small t (ap (λ (x : Interned). kind_of_type x.composite.inner) (sym last)) large

  interned-small : (startup : Bool) (t : WasmSubType) → Contains (interned_list m startup).types (interned_of t) → 4294967295 < size t → ⊥
  interned-small startup t in' large =
      let k = in'.0 in
      let at : slice_get (interned_list m startup).types k ≡ Some (interned_of t) =
      slice_get-get_or (interned_list m startup).types k (interned_of t) in'.1 ∙ ap Some in'.2 in
      elim (cases_lt k (length (interned_list m false).types)) [
        | inl lt ↦ none-large k (origin m k lt) (record { type = t; interned = sym (listed-front m startup k lt) ∙ at; large = large })
        | inr past ↦ startup-small startup k t past at in'.1 large
      ]

  pub context-large : Overflows o m → IsLargeContext o m
  context-large over = elim over.large [
    | inl object ↦ absurd (interned-small (runs (startup_by m over.memories over.tables)) object.type object.interned object.large)
    | inr large ↦ record {
      memories = over.memories;
      tables = over.tables;
      memory_plan = over.memory_plan;
      table_plan = over.table_plan;
      large = large;
    }
  ]
