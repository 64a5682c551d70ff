-- What the plans of memories and tables together leave unchanged in a translation.
use Rattle.std.proofs.Common.{sym, ap, ◌∙◌, ◌≡◌}
use Rattle.init_plan.specs.declared.translation.ModuleTranslation.{ModuleTranslation}
use Rattle.init_plan.specs.Views.{OnlyMemoryInitChanges}
use Rattle.init_plan.specs.Tables.{OnlyTableInitChanges}
use Rattle.translate.specs.Initialised.{OnlyInitChanges}

-- a translation with the plan of tables of another
abbrev pub with_tables : ModuleTranslation → ModuleTranslation → ModuleTranslation
with_tables new t = record t {
  «module» = record t.module { table_initialization = new.module.table_initialization; startup = new.module.startup };
  table_initialization = new.table_initialization;
}

-- with the plan of memories of another
abbrev pub with_memories : ModuleTranslation → ModuleTranslation → ModuleTranslation
with_memories mid t = record t {
  «module» = record t.module {
    memory_initialization = mid.module.memory_initialization;
    runtime_data = mid.module.runtime_data;
    startup = mid.module.startup;
  };
  runtime_data_map = mid.runtime_data_map;
  runtime_data = mid.runtime_data;
  memory_init = mid.memory_init;
  data_align = mid.data_align;
}

pub both-planned : (old mid new : ModuleTranslation) → OnlyMemoryInitChanges old mid → OnlyTableInitChanges mid new → new ≡ with_tables new (with_memories mid old)
both-planned old mid new memories tables = tables ∙ ap (with_tables new) memories

pub changes_both : (old mid new : ModuleTranslation) → OnlyMemoryInitChanges old mid → OnlyTableInitChanges mid new → OnlyInitChanges old new
changes_both old mid new memories tables =
    both-planned old mid new memories tables ∙ sym (ap (λ (t : ModuleTranslation). with_tables new (with_memories t old)) tables)
