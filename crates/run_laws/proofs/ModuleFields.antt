-- The struct types of a translation have as many fields as those of its module.
use Rattle.std.proofs.Common.{◌≡◌, ◌∙◌, ◌<◌, ◌≤◌, ℕ, Bool, List, [], length, map, Option, None, Some, sym, ap, arith}
use Rattle.std.specs.Prelude.{slice_get, unwrap_or, option_and_then}
use Rattle.std.specs.Option.{option_map}
use Rattle.std.proofs.Math.Logic.{⊎_elim}
use Rattle.std.proofs.lemmas.Bool.{cases_lt}
use Rattle.std.proofs.lemmas.List.{length-map}
use Rattle.std.proofs.lemmas.Option.{slice_get-map, slice_get-get_or, slice_get_past, get_or_from_slice_get}
use Rattle.wasm_spec.specs.Module.{tags}
use Rattle.wasm_spec.specs.Module as plain
use Rattle.type_spec.specs.Interned.{Interned, startup_type}
use Rattle.rule_spec.specs.Lists.{Declared, declared_groups}
use Rattle.rule_spec.specs.Rules.{Keeps}
use Rattle.rule_spec.specs.Typing.{struct_fields}
use Rattle.form_types.specs.Placed.{placed_groups}
use Rattle.form_types.proofs.Ruled.{declared-types}
use Rattle.wasm_types.specs.declared.index.EngineOrModuleTypeIndex.{EngineOrModuleTypeIndex}
use Rattle.wasm_types.specs.declared.sub.WasmSubType.{WasmSubType}
use Rattle.wasm_types.specs.Views.{struct_in}
use Rattle.module_types.specs.Views.{interned_of}
use Rattle.module_types.specs.TypeList.{TypeList}
use Rattle.module_types.proofs.NamingEarlier.{keeps-earlier}
use Rattle.init_plan.specs.Agreement.{fields_of}
use Rattle.init_plan.specs.declared.translation.ModuleTranslation.{ModuleTranslation}
use Rattle.interned_types.specs.Types.{declared, interned_at, interned_list, type_index}
use Rattle.interned_types.proofs.DeclaredLooks.{declared-long}
use Rattle.plan_run.specs.Agreement.{HasFieldsOf}
use Rattle.plan_run.specs.Fields.{field_count_in, length_or_zero, module_type_number}
use Rattle.plan_run.proofs.Lists.{some-at}
use Rattle.run_laws.proofs.FieldCounts.{fields_in, fields_at, declared-below, declared-fields, view-fields, fields-joined}

module _ (m : plain.Module) (t : ModuleTranslation) (types : TypeList) (startup : Bool) (keeps : Keeps m) (listed : t.module.types ≡ map type_index (declared m))
    (built : map interned_of types.types ≡ (interned_list m startup).types) where
  long : length (declared m) ≡ length (plain.types m)
  long = declared-long m (keeps-earlier m keeps)

  abbrev count_of : Option WasmSubType → ℕ
  count_of o = length_or_zero (option_and_then (λ (ty : WasmSubType). struct_in ty.composite_type.inner) o)

  abbrev counted : Option EngineOrModuleTypeIndex → ℕ
  counted o = count_of (option_and_then (slice_get types.types) (option_and_then module_type_number o))

  -- of a declared type
  fields-within : (index : ℕ) → index < length (plain.types m) → field_count_in t types index ≡ fields_of m index
  fields-within index lt =
      let near = keeps-earlier m keeps in
      let k = interned_at m index in
      let inside : index < length (declared m) = omega (arith, lt, long) in
      let at : slice_get t.module.types index ≡ Some (type_index k) = ap (λ (l : List EngineOrModuleTypeIndex). slice_get l index) listed
      ∙ slice_get-map type_index (declared m) index ∙ ap (option_map type_index) (slice_get-get_or (declared m) index 0 inside) in
      let below = declared-below (placed_groups m) near (tags m) startup index inside in
      let same = ap length built in
      let some = some-at types.types k (omega (arith, below, same, length-map types.types interned_of)) in
      let seen : fields_at (map interned_of types.types) k startup_type ≡ fields_in (interned_of some.0).composite.inner =
      ap (λ (x : Interned). fields_in x.composite.inner) (get_or_from_slice_get (map interned_of types.types) k (interned_of some.0) startup_type
      (slice_get-map interned_of types.types k ∙ ap (option_map interned_of) some.1)) in
      ap counted at ∙ ap count_of some.1 ∙ view-fields some.0 ∙ sym seen
      ∙ ap (λ (ts : List Interned). fields_at ts k startup_type) built
      ∙ declared-fields (placed_groups m) near (tags m) startup index inside ∙ sym (fields-joined m index lt)

  -- past the last type there is none
  fields-past : (index : ℕ) → length (plain.types m) ≤ index → field_count_in t types index ≡ fields_of m index
  fields-past index le =
      let ds = declared_groups 0 (plain.groups m) in
      let count = length-map ds (λ (d : Declared). d.type) in
      let all = ap length (declared-types 0 (plain.groups m)) in
      let here = ap length listed in
      let none : slice_get t.module.types index ≡ None = slice_get_past t.module.types index (omega (arith, le, here, long, length-map (declared m) type_index)) in
      let past : slice_get ds index ≡ None = slice_get_past ds index (omega (arith, le, count, all)) in
      ap counted none
      ∙ sym (ap (λ (o : Option Declared). length (unwrap_or (option_and_then struct_fields (option_map (λ (d : Declared). d.type.composite.inner) o)) [])) past)

  pub has-fields : HasFieldsOf m t types
  has-fields index = ⊎_elim (λ lt. fields-within index lt) (λ le. fields-past index le) (cases_lt index (length (plain.types m)))
