-- The translation and the types of a plan may be registered and linked.
use Rattle.std.proofs.Common.{◌≡◌, ◌∙◌, ◌<◌, ◌^◌, ℕ, Bool, List, None, length, All, sym, ap, subst, arith}
use Rattle.std.proofs.lemmas.List.{length-map}
use Rattle.wasm_spec.specs.TypeData.{Group}
use Rattle.wasm_spec.specs.Module.{Export}
use Rattle.wasm_spec.specs.Module as plain
use Rattle.rule_spec.specs.Lists.{lists_of_module}
use Rattle.replay_spec.specs.Startup.{Startup}
use Rattle.type_spec.specs.Interned.{Built, interned}
use Rattle.type_spec.specs.Taken.{NameEarlier}
use Rattle.form_reader.proofs.Entries.{few_entries}
use Rattle.form_types.specs.Placed.{placed_groups}
use Rattle.module_types.specs.Held.{built_of}
use Rattle.module_types.specs.ListGroups.{IsWellNamed}
use Rattle.module_types.specs.TypeList.{TypeList}
use Rattle.module_types.specs.Views.{interned_of}
use Rattle.module_types.proofs.NamingEarlier.{keeps-earlier}
use Rattle.init_plan.specs.declared.translation.ModuleTranslation.{ModuleTranslation}
use Rattle.init_plan.specs.Tables.{plan_of_tables}
use Rattle.init_plan.specs.Views.{memory_plan_of}
use Rattle.module_sections.specs.Entities.{entity_at, resolved_export}
use Rattle.interned_types.specs.Types.{interned_list}
use Rattle.plan_text.specs.declared.plan.Plan.{Plan}
use Rattle.translate.specs.Initialised.{IsInitialised}
use Rattle.translate.specs.Options.{Options, startup_by, runs}
use Rattle.translate.specs.Planned.{IsPlanned}
use Rattle.module_types.specs.Listed.{Listed, list_of}
use Rattle.wasm_types.specs.declared.entity.EntityIndex.{EntityIndex}
use Rattle.import_match.specs.Linking.{IsTypeBelow}
use Rattle.import_match.specs.ModuleTypes.{types_of}
use Rattle.plan_link.specs.Linkable.{IsLinkable}
use Rattle.plan_link.proofs.FewTypes.{few-types}
use Rattle.plan_link.proofs.TypesBelow.{raised-below, all-below}
use Rattle.plan_link.proofs.Found.{HasEntitiesOf}
use Rattle.plan_link.proofs.Linkable.{entities-of, linkable-of}

-- a list whose groups are well named may be registered, and those of an interned list are
abbrev pub MayBeListed : Type 0
MayBeListed = (l : TypeList) → IsWellNamed (list_of l) → length l.types < 4294967295 → Listed l

abbrev pub AreWellNamed : Type 0
AreWellNamed = (ms : List (Group ℕ ℕ)) → NameEarlier 0 ms → (tags : List ℕ) (startup : Bool) → IsWellNamed (interned ms tags startup)

module _ (o : Options) (bytes : List ℕ) (plan : Plan) (is : IsPlanned o bytes plan) where
  abbrev m : plain.Module
  m = is.meaning

  abbrev init : IsInitialised o.init bytes m plan.translation
  init = is.planned.translation

  abbrev kind : Startup
  kind = startup_by m (memory_plan_of plan.translation) (plan_of_tables plan.translation)

  abbrev held : Built
  held = built_of plan.types (λ f. None)

  abbrev list : Built
  list = interned_list m (runs kind)

  counted : length (interned_list m (runs kind)).types ≡ length plan.types.types
  counted = ap length (sym is.planned.types.types) ∙ length-map plan.types.types interned_of

  pub planned-types : length plan.types.types < 2 ^ 31
  planned-types = omega (arith, few-types bytes m is.read (runs kind), counted)

  -- except where mapped types were seen, the list is the interned one
  well-named : AreWellNamed → IsWellNamed held
  well-named well =
      let w = well (placed_groups m) (keeps-earlier m is.keeps) (plain.tags m) (runs kind) in
      let same = is.planned.types in
      record {
        orderly = rw (same.types, same.groups) w.orderly;
        earlier = rw (same.types, same.groups) w.earlier;
        kinds = rw same.types w.kinds;
      }

  -- planning leaves the entities
  has : HasEntitiesOf m plan.translation.module
  has =
      subst (λ (t : ModuleTranslation). HasEntitiesOf m t.module) (sym init.rest.same)
      (entities-of o.init.tunables.debug_guest m _ init.rest.before init.rest.translation.types init.rest.translation.sections)

  below : All (IsTypeBelow (length plan.types.types)) (types_of plan.translation.module)
  below =
      all-below m is.keeps (runs kind) (length plan.types.types) counted plan.translation.module has.types
      (rw init.startup (raised-below m is.keeps (runs kind) (length plan.types.types) counted kind counted))

  pub planned-exports : length plan.translation.module.exports.entries < 2 ^ 30
  planned-exports =
      let r = plan.translation.module in
      let es = (lists_of_module m).exports in
      let exported : Export → List ℕ × EntityIndex = λ e. (e.name, entity_at e.kind e.index) in
      let few = (few_entries bytes m is.read.spelled is.read.short).exports in
      omega (arith, length-map r.exports.entries (resolved_export r.strings), ap length has.exports, length-map es exported, few)

  pub planned-linkable : MayBeListed → AreWellNamed → IsLinkable plan.translation.module plan.types
  planned-linkable may well =
      let few : length plan.types.types < 4294967295 = omega (arith, planned-types) in
      linkable-of m is.keeps plan.translation.module has plan.types below (may plan.types (well-named well) few) few
