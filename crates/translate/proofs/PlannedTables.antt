-- What the plan of a translation's tables promises of the module whose lists the translation holds.
use Rattle.std.proofs.Common.{ap, ◌∙◌}
use Rattle.wasm_spec.specs.Module.{Module}
use Rattle.replay_spec.specs.Tables.{TablePlan, IsTablePlan}
use Rattle.init_plan.specs.declared.translation.ModuleTranslation.{ModuleTranslation}
use Rattle.init_plan.specs.Views.{OnlyMemoryInitChanges}
use Rattle.init_plan.specs.Held.{HoldsTables}
use Rattle.init_plan.specs.Tables.{tables_of, elements_of}
use Rattle.translate.specs.Options.{InitOptions, PlansTables}

-- the plan of the memories keeps the tables
pub holds_still : (m : Module) (old mid : ModuleTranslation) → OnlyMemoryInitChanges old mid → HoldsTables m old → HoldsTables m mid
holds_still m old mid same h = record {
  imports = ap (λ (t : ModuleTranslation). t.module.num_imported_tables) same ∙ h.imports;
  tables = ap tables_of same ∙ h.tables;
  active = ap elements_of same ∙ h.active;
}

pub plans_tables : (i : InitOptions) (m : Module) (t : ModuleTranslation) (plan : TablePlan) → HoldsTables m t
    → IsTablePlan i.tunables.table_lazy_init t.module.num_imported_tables (tables_of t) (elements_of t) plan → PlansTables i m plan
plans_tables i m t plan holds h = rw (← holds.imports, ← holds.tables, ← holds.active) h
