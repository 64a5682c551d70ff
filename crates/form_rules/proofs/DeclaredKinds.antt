-- The kinds of declared types, but for what their references name.
use Rattle.std.proofs.Common.{◌≡◌, ◌∙◌, ℕ, ◌<◌, ◌≤◌, length, get_or, Option, Some, None, refl, sym, ap, arith}
use Rattle.std.specs.Prelude.{slice_get, slice_index}
use Rattle.std.specs.Option.{option_map}
use Rattle.std.proofs.lemmas.List.{length-map}
use Rattle.std.proofs.lemmas.Option.{slice_get-map, slice_get-get_or, slice_get_past, get_or_from_slice_get}
use Rattle.wasm_spec.specs.declared.types.UnpackedIndex.{UnpackedIndex}
use Rattle.wasm_spec.specs.declared.types.UnpackedIndex.TheVariants.{Module}
use Rattle.wasm_spec.specs.TypeData.{SubType, Composite}
use Rattle.wasm_spec.specs.Module as plain
use Rattle.type_spec.specs.TypeShapes.{sub_type_shape}
use Rattle.rule_spec.specs.Lists.{Declared, declared_groups}
use Rattle.form_types.specs.Types.{TypesData, types_by_id}
use Rattle.form_types.specs.Placed.{named_index}
use Rattle.form_types.specs.Numbered.{AreNumbered}
use Rattle.form_types.proofs.Ruled.{declared-types}
use Rattle.form_types.proofs.AtIds.{type-at-id}
use Rattle.form_rules.specs.Unnamed.{unnamed}

abbrev kind_of : SubType UnpackedIndex UnpackedIndex → Composite UnpackedIndex UnpackedIndex
kind_of t = t.composite.inner

abbrev pub kind_of_declared : Declared → Composite UnpackedIndex UnpackedIndex
kind_of_declared d = d.type.composite.inner

module _ (m : plain.Module) (t : TypesData) (numbered : AreNumbered m t) where
  pub declared-count : length t.declared ≡ length (declared_groups 0 (plain.groups m))
  declared-count =
      numbered.each ∙ sym (ap length (declared-types 0 (plain.groups m))) ∙ length-map (declared_groups 0 (plain.groups m)) (λ (d : Declared). d.type)

  kinds : (i : ℕ) → option_map kind_of_declared (slice_get (declared_groups 0 (plain.groups m)) i) ≡ option_map kind_of (slice_get (plain.types m) i)
  kinds i =
      let ds = declared_groups 0 (plain.groups m) in
      two (slice_get ds i) ∙ ap (option_map kind_of)
      (sym (slice_get-map (λ (d : Declared). d.type) ds i) ∙ ap (λ l. slice_get l i) (declared-types 0 (plain.groups m))) where
        two : (o : Option Declared) → option_map kind_of_declared o ≡ option_map kind_of (option_map (λ (d : Declared). d.type) o)
        two None = refl
        two (Some d) = refl

  -- the type at a declared type's id has the declared type's kind
  pub kind-found : (i id : ℕ) (ty : SubType UnpackedIndex UnpackedIndex) → i < length t.declared → id ≡ slice_index t.declared i
      → slice_get (types_by_id t.groups) id ≡ Some ty
      → Some (unnamed ty.composite.inner) ≡ option_map unnamed (option_map kind_of_declared (slice_get (declared_groups 0 (plain.groups m)) i))
  kind-found i id ty lt is found =
      let ren = named_index t.declared in
      let inside : i < length (plain.types m) = omega (arith, lt, numbered.each) in
      let x = get_or (plain.types m) i ty in
      let there = sym (get_or_from_slice_get (types_by_id t.groups) id ty ty found) ∙ ap (λ k. get_or (types_by_id t.groups) k ty) is
      ∙ type-at-id m t numbered i inside ty in
      ap (λ (y : SubType UnpackedIndex UnpackedIndex). Some (unnamed y.composite.inner)) there
      ∙ ap (λ (y : SubType UnpackedIndex UnpackedIndex). Some y.composite.inner) (sub_type_shape.map_twice ren (λ index. Module 0) ren (λ index. Module 0) x)
      ∙ ap (λ o. option_map unnamed (option_map kind_of o)) (sym (slice_get-get_or (plain.types m) i ty inside))
      ∙ ap (option_map unnamed) (sym (kinds i))

  -- past the last there is none
  pub kind-missing : (i : ℕ) → length t.declared ≤ i
      → None ≡ option_map unnamed (option_map kind_of_declared (slice_get (declared_groups 0 (plain.groups m)) i))
  kind-missing i past =
      ap (λ o. option_map unnamed (option_map kind_of_declared o))
      (sym (slice_get_past (declared_groups 0 (plain.groups m)) i (omega (arith, past, declared-count))))
