-- Plans of the same bytes begin alike, since each begins as the one module that the bytes spell.
use Rattle.std.proofs.Common.{◌≡◌, ◌∙◌, ◌<◌, ℕ, List, length, sym, ap, subst}
use Rattle.wasm_spec.specs.Module.{Module, table_import, imported_of, imported_memories}
use Rattle.rule_spec.specs.Lists.{lists_of_module}
use Rattle.form_reader.proofs.SectionLaws.{module_once}
use Rattle.replay_spec.specs.Data.{module_phase}
use Rattle.replay_spec.specs.Globals.{planned_globals}
use Rattle.replay_spec.specs.Phases.{Phase, SamePhase}
use Rattle.replay_spec.specs.Tables.{planned_elements_phase}
use Rattle.replay_spec.specs.Values.{Value, offset_over}
use Rattle.init_plan.specs.declared.translation.ModuleTranslation.{ModuleTranslation}
use Rattle.init_plan.specs.Agreement.{AgreesInAll, fields_of, globals_of, module_elements_phase}
use Rattle.init_plan.specs.Held.{plan_of_globals}
use Rattle.init_plan.specs.Tables.{plan_of_tables}
use Rattle.init_plan.specs.Views.{memory_plan_of}
use Rattle.plan_text.specs.declared.plan.Plan.{Plan}
use Rattle.plan_run.specs.declared.laid.Way.{Way}
use Rattle.plan_run.specs.declared.laid.Way.TheVariants as way
use Rattle.plan_run.specs.Memories.{plan_phase}
use Rattle.translate.specs.Options.{Options}
use Rattle.translate.specs.Planned.{IsPlanned}
use Rattle.run_laws.specs.Alike.{fields_by, globals_by, data_by, elements_by, BeginAlike}
use Rattle.run_laws.proofs.LaidWhole.{planned-fields}

-- ---- phases that are the same

turned : {A : Type 0} (x y : Phase A) → SamePhase x y → SamePhase y x
turned x y same = record {
  sizes = λ object. sym (same.sizes object);
  trap = sym same.trap;
  places = λ object place within. sym (same.places object place (subst (λ (n : ℕ). place < n) (sym (same.sizes object)) within));
}

joined : {A : Type 0} (x y z : Phase A) → SamePhase x y → SamePhase y z → SamePhase x z
joined x y z same next = record {
  sizes = λ object. same.sizes object ∙ next.sizes object;
  trap = same.trap ∙ next.trap;
  places = λ object place within.
      same.places object place within ∙ next.places object place (subst (λ (n : ℕ). place < n) (same.sizes object) within);
}

-- both are as a third
through : {A : Type 0} (x y z : Phase A) → SamePhase x y → SamePhase x z → SamePhase y z
through x y z one other = joined y x z (turned x y one) other

-- ---- a plan begins as a module

record BeginsAs (m : Module) (plan : Plan) : Type 0 where
  global_count : plan.translation.module.num_imported_globals ≡ (lists_of_module m).imported_globals
  memory_count : plan.translation.module.num_imported_memories ≡ length (imported_memories m)
  table_count : plan.translation.module.num_imported_tables ≡ length (imported_of table_import m)
  globals : (imported : List Value) → length imported ≡ (lists_of_module m).imported_globals → globals_by plan imported ≡ globals_of m imported
  bytes : (w : Way) (imported : List Value) (contents : List (List ℕ)) → length imported ≡ (lists_of_module m).imported_globals
      → length contents ≡ length (imported_memories m)
      → SamePhase (module_phase (globals_of m imported) (fields_of m) contents m) (data_by plan w imported contents)
  cells : (imported : List Value) (contents : List (List Value)) → length imported ≡ (lists_of_module m).imported_globals
      → length contents ≡ length (imported_of table_import m)
      → SamePhase (module_elements_phase (globals_of m imported) contents m) (elements_by plan imported contents)

module _ (o : Options) (bytes : List ℕ) (plan : Plan) (is : IsPlanned o bytes plan) where
  abbrev m : Module
  m = is.meaning

  abbrev t : ModuleTranslation
  t = plan.translation

  abbrev agrees : AgreesInAll m (plan_of_globals t) (memory_plan_of t) (plan_of_tables t)
  agrees = is.planned.translation.agrees

  fields : fields_of m ≡ fields_by plan
  fields = let has = planned-fields o bytes plan is in λ i. λ index. sym (has index) i

  by-way : (w : Way) (imported : List Value) (contents : List (List ℕ)) → length imported ≡ (lists_of_module m).imported_globals
      → length contents ≡ length (imported_memories m)
      → SamePhase (module_phase (globals_of m imported) (fields_of m) contents m)
      (plan_phase w (offset_over (planned_globals (fields_of m) imported (plan_of_globals t)) (fields_of m)) contents (memory_plan_of t))
  by-way way.Map imported contents l k = agrees.by_map imported contents l k
  by-way way.Copy imported contents l k = agrees.by_list imported contents l k

  begins : BeginsAs m plan
  begins =
      let same = is.planned.translation.rest.same in
      let counts = is.planned.translation.rest.translation.sections.counts in
      record {
        global_count = ap (λ (x : ModuleTranslation). x.module.num_imported_globals) same ∙ counts.globals;
        memory_count = ap (λ (x : ModuleTranslation). x.module.num_imported_memories) same ∙ counts.memories;
        table_count = ap (λ (x : ModuleTranslation). x.module.num_imported_tables) same ∙ counts.tables;
        globals = λ imported l. subst (λ (f : ℕ → ℕ). planned_globals f imported (plan_of_globals t) ≡ globals_of m imported) fields (agrees.on_globals imported l);
        bytes = λ w imported contents l k. subst (λ (f : ℕ → ℕ). SamePhase (module_phase (globals_of m imported) (fields_of m) contents m)
            (plan_phase w (offset_over (planned_globals f imported (plan_of_globals t)) f) contents (memory_plan_of t)))
            fields (by-way w imported contents l k);
        cells = λ imported contents l k. subst (λ (f : ℕ → ℕ). SamePhase (module_elements_phase (globals_of m imported) contents m)
            (planned_elements_phase (planned_globals f imported (plan_of_globals t)) f contents (plan_of_tables t)))
            fields (agrees.on_tables imported contents l k);
      }

-- ---- two plans of one module

both-begin : (m : Module) (one other : Plan) → BeginsAs m one → BeginsAs m other → BeginAlike one other
both-begin m one other x y = record {
  globals = λ imported l. x.globals imported (l ∙ x.global_count) ∙ sym (y.globals imported (l ∙ x.global_count));
  bytes = λ v w imported contents l k. through _ _ _ (x.bytes v imported contents (l ∙ x.global_count) (k ∙ x.memory_count))
      (y.bytes w imported contents (l ∙ x.global_count) (k ∙ x.memory_count));
  cells = λ imported contents l k. through _ _ _ (x.cells imported contents (l ∙ x.global_count) (k ∙ x.table_count))
      (y.cells imported contents (l ∙ x.global_count) (k ∙ x.table_count));
}

pub begin-alike : (o p : Options) (bytes : List ℕ) (one other : Plan) → IsPlanned o bytes one → IsPlanned p bytes other → BeginAlike one other
begin-alike o p bytes one other is also = both-begin is.meaning one other (begins o bytes one is)
    (subst (λ (m : Module). BeginsAs m other) (module_once bytes also.meaning is.meaning also.read.spelled is.read.spelled) (begins p bytes other also))
