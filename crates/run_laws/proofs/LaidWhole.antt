-- A run of a plan gives what the module's initialisers give.
use Rattle.std.proofs.Common.{◌≡◌, ◌∙◌, ℕ, List, map, ap}
use Rattle.init_plan.specs.declared.translation.ModuleTranslation.{ModuleTranslation}
use Rattle.init_plan.specs.Views.{memory_plan_of}
use Rattle.init_plan.specs.Tables.{plan_of_tables}
use Rattle.wasm_spec.specs.Module.{Module}
use Rattle.interned_types.specs.Types.{declared, type_index}
use Rattle.plan_text.specs.declared.plan.Plan.{Plan}
use Rattle.translate.specs.Options.{Options, startup_by, runs}
use Rattle.translate.specs.Planned.{IsPlanned}
use Rattle.translate.specs.Initialised.{IsInitialised}
use Rattle.plan_run.specs.declared.laid.Imports.{Imports}
use Rattle.plan_run.specs.declared.laid.Laid.{Laid}
use Rattle.plan_run.specs.declared.laid.Way.{Way}
use Rattle.plan_run.specs.Agreement.{HasFieldsOf, AreCountedBy, AgreementLaw, IsOfModule}
use Rattle.plan_run.specs.Laid.{GlobalsAreLaid, MemoriesAreLaid, TablesAreLaid}
use Rattle.run_laws.specs.Planned.{AreImportsOf}
use Rattle.run_laws.proofs.ModuleFields.{has-fields}

module _ (o : Options) (bytes : List ℕ) (plan : Plan) (is : IsPlanned o bytes plan) where
  abbrev m : Module
  m = is.meaning

  abbrev t : ModuleTranslation
  t = plan.translation

  abbrev whole : IsInitialised o.init bytes m t
  whole = is.planned.translation

  listed : t.module.types ≡ map type_index (declared m)
  listed = ap (λ (x : ModuleTranslation). x.module.types) whole.rest.same ∙ whole.rest.translation.types.declared

  pub planned-fields : HasFieldsOf m t plan.types
  planned-fields = has-fields m t plan.types (runs (startup_by m (memory_plan_of t) (plan_of_tables t))) is.keeps listed is.planned.types.types

  -- as many imports as the translation has are as many as the module has
  counted-by : (imports : Imports) → AreImportsOf t imports → AreCountedBy m imports
  counted-by imports are =
      let counts = whole.rest.translation.sections.counts in
      let same = whole.rest.same in
      record {
        globals = are.globals ∙ ap (λ (x : ModuleTranslation). x.module.num_imported_globals) same ∙ counts.globals;
        memories = are.memories ∙ ap (λ (x : ModuleTranslation). x.module.num_imported_memories) same ∙ counts.memories;
        tables = are.tables ∙ ap (λ (x : ModuleTranslation). x.module.num_imported_tables) same ∙ counts.tables;
      }

  pub laid-of-module : (w : Way) (imports : Imports) (laid : Laid) → AgreementLaw t plan.types w imports laid → AreImportsOf t imports
      → GlobalsAreLaid t plan.types imports laid → MemoriesAreLaid t plan.types w imports laid → TablesAreLaid t plan.types imports laid
      → IsOfModule m t imports laid
  laid-of-module w imports laid law are = law m whole.agrees planned-fields (counted-by imports are)
