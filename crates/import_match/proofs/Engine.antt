-- Types of held modules, and function types among them.
use Rattle.std.proofs.Common.{◌≡◌, ◌<◌, ℕ, List, length, slice_get, All, Option, Some, None, refl, sym, ap, subst, true≢false, ◌↔◌, ◌∙◌}
use Rattle.std.specs.Prelude.{IsSome, IfSome, is_some, option_and_then, unwrap_or}
use Rattle.std.specs.Option.{option_map}
use Rattle.std.proofs.lemmas.Option.{none-some, same_Some, slice_get-get_or}
use Rattle.std.proofs.lemmas.List.Elements.{All-weaker}
use Rattle.wasm_index.specs.Index.{number_of, index_of}
use Rattle.wasm_types.specs.declared.index.EngineOrModuleTypeIndex.{EngineOrModuleTypeIndex}
use Rattle.wasm_types.specs.declared.index.EngineOrModuleTypeIndex.TheVariants.{Engine, Module, RecGroup}
use Rattle.type_registry.specs.Registry.{Registry, Module as Listed, index_at, count_of}
use Rattle.import_match.specs.Rules.{types_in, mismatch}
use Rattle.import_match.specs.Definitions.{Definition}
use Rattle.import_match.specs.Linking.{IsTypeBelow, HaveTypesOf, engine_index, engine_type}
use Rattle.import_match.specs.Held.{IsTypeOf}
use Rattle.wasm_types.specs.declared.entity.EntityType.{EntityType}
use Rattle.wasm_types.specs.declared.entity.EntityType.TheVariants as entity
use Rattle.wasm_types.specs.EntityViews.{entity_back}
use Rattle.wasm_types.specs.Views.{engine_index as engine_in}
use Rattle.module_types.specs.TypeList.{TypeList}
use Rattle.type_registry.specs.Standing.{Stands}
use Rattle.import_match.specs.FunctionTypes.{function_of_type}
use Rattle.import_match.proofs.Matched.{matching}

-- a type below the count has an index
index-below : (r : Registry) (key count i : ℕ) → count_of r key ≡ Some count → i < count → IsSome (index_at r key i)
index-below r key count i is less = by (r.held key) is
  where
    by : (m : Option Listed) → option_map (λ (l : Listed). length l.indices) m ≡ Some count
        → IsSome (option_and_then (λ (l : Listed). slice_get l.indices i) m)
    by None h = absurd (none-some count h)
    by (Some l) h =
        let size : length l.indices ≡ count = same_Some (length l.indices) count h in
        ap is_some (slice_get-get_or l.indices i 0 (subst (λ n. i < n) (sym size) less))

type-of : (r : Registry) (key count : ℕ) (e : EngineOrModuleTypeIndex) → count_of r key ≡ Some count → IsTypeBelow count e → IsTypeOf r key e
type-of r key count (Module i) is h = index-below r key count (number_of i) is h
type-of _ _ _ _ _ h = absurd h

-- where the key is held
pub types-of : (r : Registry) (key : ℕ) (ds : List Definition) → IsSome (count_of r key) → HaveTypesOf r key ds
    → All (λ (d : Definition). All (IsTypeOf r key) (types_in d.1)) ds
types-of r key ds held have = by (count_of r key) refl held have
  where
    by : (c : Option ℕ) → count_of r key ≡ c → IsSome c → IfSome c (λ count. All (λ (d : Definition). All (IsTypeBelow count) (types_in d.1)) ds)
        → All (λ (d : Definition). All (IsTypeOf r key) (types_in d.1)) ds
    by None is h all = absurd (true≢false (sym h))
    by (Some count) is h all =
        All-weaker (λ (d : Definition). All (IsTypeBelow count) (types_in d.1)) (λ (d : Definition). All (IsTypeOf r key) (types_in d.1))
        (λ d below. All-weaker (IsTypeBelow count) (IsTypeOf r key) (λ e. type-of r key count e is) (types_in d.1) below) ds all

-- ---- function types of held modules

-- the function has the engine's index of its type
engine-function : (r : Registry) (key i : ℕ) → engine_type r key (function_of_type i) ≡ entity.Function (Engine (engine_index r key (index_of i)))
engine-function r key i = entity_back.is (entity.Function (Engine (engine_index r key (index_of i))))

-- each type of a held module has an index
held-index : (r : Registry) (key : ℕ) (l : TypeList) → Stands r key l → (i : ℕ) → i < length l.types → index_at r key i ≡ Some (unwrap_or (index_at r key i) 0)
held-index r key l st i less =
    let at : index_at r key i ≡ slice_get st.listed.indices i = ap (option_and_then (λ (m : Listed). slice_get m.indices i)) st.held in
    by (index_at r key i) (at ∙ slice_get-get_or st.listed.indices i 0 (subst (λ n. i < n) (sym st.count) less))
  where
    by : {n : ℕ} (o : Option ℕ) → o ≡ Some n → o ≡ Some (unwrap_or o 0)
    by None e = absurd cc
    by (Some x) e = refl

-- functions match exactly where the engine's indices are equal
pub same-indices : (r : Registry) (a b : ℕ) (l k : TypeList) → Stands r a l → Stands r b k → (i j : ℕ) → i < length l.types → j < length k.types
    → (mismatch (engine_type r a (function_of_type i)) (engine_type r b (function_of_type j)) ≡ None) ↔ (index_at r a i ≡ index_at r b j)
same-indices r a b l k st st' i j less less' =
    let f = engine_index r a (index_of i) in
    let g = engine_index r b (index_of j) in
    let fn : EngineOrModuleTypeIndex → EntityType = λ e. entity.Function e in
    let is : mismatch (engine_type r a (function_of_type i)) (engine_type r b (function_of_type j)) ≡ mismatch (fn (Engine f)) (fn (Engine g)) =
    λ t. mismatch (engine-function r a i t) (engine-function r b j t)
    in
    let second = held-index r b k st' j less' in (
      λ none.
          let same : Engine f ≡ Engine g = (matching (fn (Engine f)) (fn (Engine g))).0 (sym is ∙ none) in
          let numbers : number_of f ≡ number_of g = ap number_of (same_Some f g (ap engine_in same)) in
          held-index r a l st i less ∙ ap (λ n. Some n) numbers ∙ sym second,
      λ same.
          let numbers : f ≡ g = ap (λ (o : Option ℕ). index_of (unwrap_or o 0)) same in
          is ∙ (matching (fn (Engine f)) (fn (Engine g))).1 (ap Engine numbers),
    )
