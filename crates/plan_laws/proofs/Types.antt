-- The interned types of a plan are had back from what the module says of them.
use Rattle.std.proofs.Common.{◌≡◌, ◌∙◌, ℕ, Bool, List, length, refl, sym, ap, arith}
use Rattle.std.specs.Option.{option_map}
use Rattle.std.proofs.lemmas.List.{length-map}
use Rattle.wasm_spec.specs.Module as plain
use Rattle.wasm_spec.specs.TypeData.{map_group}
use Rattle.type_spec.specs.Names.{named}
use Rattle.rule_spec.specs.Rules.{Keeps}
use Rattle.form_types.specs.Placed.{placed_groups}
use Rattle.wasm_index.specs.Index.{number_of, index_of}
use Rattle.wasm_types.specs.ViewsTell.{Back, tells, group_back}
use Rattle.module_types.specs.Listed.{Listed}
use Rattle.module_types.specs.TypeList.{TypeList}
use Rattle.module_types.specs.Views.{interned_of, index_at, span_of}
use Rattle.module_types.proofs.ListedLists.{listed}
use Rattle.module_types.proofs.NamedLists.{well-named}
use Rattle.module_types.proofs.NamingEarlier.{keeps-earlier}
use Rattle.module_environ.specs.Readable.{IsReadable}
use Rattle.interned_types.specs.Types.{interned_list}
use Rattle.translate.specs.Planned.{HoldsTypes}
use Rattle.translate.proofs.FewTypes.{few-types}
use Rattle.plan_laws.proofs.Told.{index-back, option-back, all-told}

-- ---- had back

range-back : Back span_of
range-back = record { back = λ s. record { start = index_of s.start; end = index_of s.end }; is = λ r. refl }

module _ (bytes : List ℕ) (m : plain.Module) (read : IsReadable bytes m) (keeps : Keeps m) (startup : Bool) where
  is-listed : (l : TypeList) → HoldsTypes l (interned_list m startup) → Listed l
  is-listed l same =
      let w = well-named (placed_groups m) (keeps-earlier m keeps) (plain.tags m) startup in
      let counted : length (interned_list m startup).types ≡ length l.types = ap length (sym same.types) ∙ length-map l.types interned_of in
      listed l (record {
        orderly = rw (same.types, same.groups) w.orderly;
        earlier = rw (same.types, same.groups) w.earlier;
        kinds = rw same.types w.kinds;
      }) (omega (arith, few-types bytes m read startup, read.short, counted))

  module _ (k l : TypeList) (x : HoldsTypes k (interned_list m startup)) (y : HoldsTypes l (interned_list m startup)) where
    same-types : k.types ≡ l.types
    same-types = tells group_back k.types l.types
        (sym (is-listed k x).indexed ∙ ap (map_group (named index_at) index_at) (x.types ∙ sym y.types) ∙ (is-listed l y).indexed)

    same-groups : k.groups ≡ l.groups
    same-groups = all-told span_of range-back k.groups l.groups (x.groups ∙ sym y.groups)

    same-trampolines : k.trampolines ≡ l.trampolines
    same-trampolines = all-told (option_map number_of) (option-back index-back) k.trampolines l.trampolines (x.trampolines ∙ sym y.trampolines)

    pub same-list : k ≡ l
    same-list = λ i. record { types = same-types i; groups = same-groups i; trampolines = same-trampolines i }
