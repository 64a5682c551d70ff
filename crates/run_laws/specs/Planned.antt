-- What the calls that plan a translation promise, as far as a run depends on it. The fields are
-- clauses of these calls.
use Rattle.std.specs.Prelude.{◌≡◌, Bool, length}
use Rattle.module_types.specs.Builder.{BuilderState, builder_view}
use Rattle.replay_spec.specs.Images.{ImageOptions, IsMemoryPlan}
use Rattle.replay_spec.specs.Startup.{Startup}
use Rattle.replay_spec.specs.Tables.{IsTablePlan}
use Rattle.init_plan.specs.declared.translation.ModuleTranslation.{ModuleTranslation}
use Rattle.init_plan.specs.Views.{memory_plan_of, initializers_of, passive_bytes, IsProcessed, OnlyMemoryInitChanges}
use Rattle.init_plan.specs.Images.{image_memories, BeginsByRule}
use Rattle.init_plan.specs.Startup.{types_after}
use Rattle.plan_run.specs.declared.laid.Imports.{Imports}
use Rattle.init_plan.specs.Tables.{tables_of, elements_of, plan_of_tables, AreCounted, OnlyTableInitChanges}

-- the memories are planned, as `finalize_memory_init` does it
pub record MemoriesArePlanned (options : ImageOptions) (old new : ModuleTranslation) : Type 0 where
  pub planned : IsMemoryPlan options old.module.num_imported_memories (image_memories old.module) (initializers_of old) (passive_bytes old) (memory_plan_of new)
  pub begins : BeginsByRule options old new
  pub processed : IsProcessed new.memory_init
  pub same : OnlyMemoryInitChanges old new

-- the tables are planned, as `finalize_table_init` does it
pub record TablesArePlanned (lazy : Bool) (old new : ModuleTranslation) : Type 0 where
  pub planned : IsTablePlan lazy old.module.num_imported_tables (tables_of old) (elements_of old) (plan_of_tables new)
  pub counts : AreCounted new
  pub same : OnlyTableInitChanges old new

-- the builder gains no type but that of startup, as both calls do it to a translation
pub record GainsStartup (t : ModuleTranslation) (old new : BuilderState) : Type 0 where
  pub kind : Startup
  pub types : builder_view new ≡ types_after kind t.module.startup (builder_view old)

-- as many imports as the translation has
pub record AreImportsOf (t : ModuleTranslation) (imports : Imports) : Type 0 where
  pub globals : length imports.globals.items ≡ t.module.num_imported_globals
  pub memories : length imports.memories.items ≡ t.module.num_imported_memories
  pub tables : length imports.tables.items ≡ t.module.num_imported_tables
