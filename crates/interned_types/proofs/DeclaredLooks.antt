-- While a module's types are interned and nothing else was built from them, each is looked up as
-- the definition of a translation has it.
use Rattle.std.proofs.Common.{◌≡◌, ◌∙◌, ◌<◌, ◌≤◌, ℕ, zero, suc, Some, List, [], ◌∷◌, length, map, refl, sym, ap, subst, arith, inl, inr}
use Rattle.std.specs.Prelude.{slice_get, option_and_then, unwrap_or, IsSome}
use Rattle.std.proofs.lemmas.Bool.{cases_lt}
use Rattle.std.proofs.lemmas.List.{length-map, get_or-map, get_or_past}
use Rattle.std.proofs.lemmas.Option.{slice_get-get_or, slice_get_past}
use Rattle.wasm_spec.specs.declared.types.UnpackedIndex.{UnpackedIndex}
use Rattle.wasm_spec.specs.TypeData.{Group}
use Rattle.wasm_spec.specs.Module as plain
use Rattle.type_spec.specs.Names.{FuncName}
use Rattle.type_spec.specs.Interned.{Built, kind_of_type, composite_at, kind_at, taken}
use Rattle.type_spec.specs.Taken.{NameEarlier}
use Rattle.type_spec.proofs.Homes.{size}
use Rattle.form_types.specs.Placed.{place_of, placed_groups}
use Rattle.form_types.proofs.Ruled.{size-places}
use Rattle.wasm_index.specs.Index.{index_of}
use Rattle.wasm_types.specs.declared.heap.WasmHeapType.{WasmHeapType}
use Rattle.wasm_types.specs.declared.index.EngineOrModuleTypeIndex.{EngineOrModuleTypeIndex}
use Rattle.wasm_types.specs.ValueViews.{heap_of}
use Rattle.wasm_types.specs.Views.{module_index}
use Rattle.module_types.specs.Builder.{BuilderState, builder_view}
use Rattle.module_types.specs.Converter.{interned_name}
use Rattle.module_types.proofs.Taking.{whole}
use Rattle.interned_types.specs.Types.{declared, interned_at, type_index, look_up_in}
use Rattle.interned_types.specs.Environment.{interned_in, number_or_zero, NameEach, LooksUpTypes}
use Rattle.interned_types.specs.Named.{named_by, unnamed, IsNamed, name_in}
use Rattle.interned_types.proofs.DeclaredKinds.{declared-kind, types-long}

-- past the last type
kind-past : (gs : List (Group ℕ ℕ)) (i : ℕ) → size gs ≤ i → kind_at gs i ≡ FuncName
kind-past [] i le = refl
kind-past ([] ∷ gs) i le = kind-past gs i le
kind-past ((t ∷ ts) ∷ gs) zero le = absurd (omega (arith, le))
kind-past ((t ∷ ts) ∷ gs) (suc i) le = kind-past (ts ∷ gs) i (omega (arith, le))

module _ (m : plain.Module) (near : NameEarlier 0 (placed_groups m)) where
  pub declared-long : length (declared m) ≡ length (plain.types m)
  declared-long = (whole (placed_groups m) near).counted ∙ size-places (plain.groups m)

  pub declared-held : (i : ℕ) → i < length (plain.types m) → interned_at m i < length (taken (placed_groups m)).built.types
  declared-held i lt = (whole (placed_groups m) near).below i (omega (arith, lt, size-places (plain.groups m)))

  module _ (types : List EngineOrModuleTypeIndex) (listed : types ≡ map type_index (declared m)) where
    pub listed-long : length types ≡ length (plain.types m)
    listed-long = ap length listed ∙ length-map (declared m) type_index ∙ declared-long

    pub listed-at : (i : ℕ) → i < length (plain.types m) → interned_in types i ≡ Some (index_of (interned_at m i))
    listed-at i lt =
        let d = declared m in
        let inside : i < length d = omega (arith, lt, declared-long) in
        ap (λ l. option_and_then module_index (slice_get l i)) listed
        ∙ ap (option_and_then module_index) (slice_get-get_or (map type_index d) i (type_index 0) (omega (arith, inside, length-map d type_index))
        ∙ ap Some (get_or-map type_index d i 0 (type_index 0) inside))

    module _ (b : BuilderState) (built : (builder_view b).built ≡ (taken (placed_groups m)).built) (names : List WasmHeapType)
        (name : NameEach types b names) where
      looked-up : (i : UnpackedIndex) → name_in names i ≡ look_up_in m i
      looked-up i =
          let k = place_of i in
          let long : length names ≡ length (plain.types m) = name.long ∙ listed-long in
          elim (cases_lt k (length names)) [
            | inl lt ↦
                let inside : k < length (plain.types m) = omega (arith, lt, long) in
                let kind = ap (λ (x : Built). kind_of_type (composite_at x.types (interned_at m k))) built
                ∙ declared-kind (placed_groups m) near k (omega (arith, inside, declared-long)) in
                ap (λ o. unwrap_or o unnamed) (name.named k lt) ∙ ap (λ o. interned_name b (number_or_zero o)) (listed-at k inside)
                ∙ (λ j. record { kind = kind j; index = type_index (interned_at m k) })
            | inr past ↦
                let kind = kind-past (placed_groups m) k (omega (arith, past, long, size-places (plain.groups m))) in
                let none = get_or_past (declared m) k 0 (omega (arith, past, long, declared-long)) in
                ap (λ o. unwrap_or (option_and_then (λ h. named_by (heap_of h)) o) unnamed) (slice_get_past names k (omega (arith, past)))
                ∙ sym (λ j. record { kind = kind j; index = type_index (none j) })
          ]

      pub looks-declared : LooksUpTypes m (IsNamed names) (name_in names)
      looks-declared = record {
        knows = λ i lt. subst IsSome (sym (name.named i (omega (arith, lt, name.long, listed-long, types-long m)))) refl;
        same = λ j i. looked-up i j;
      }
