-- The tables of a translation, as the plain values of the definitions, and when they may be planned.
use Rattle.std.specs.Prelude.{◌≡◌, ℕ, ◌-◌, ◌^◌, ◌<◌, ◌≤◌, List, [], length, map, drop, All, IfSome, Option}
use Rattle.wasm_types.specs.declared.table.Table.{Table}
use Rattle.replay_spec.specs.Elements.{ActiveElements, DefinedTable}
use Rattle.replay_spec.specs.Tables.{image_cells, initial_function, TablePlan}
use Rattle.replay_spec.specs.Startup.{Startup, raised_by_tables}
use Rattle.table_images.specs.Steps.{images_of}
use Rattle.table_images.specs.Views.{active_elements_of, defined_tables_of, table_plan_of}
use Rattle.init_plan.specs.declared.translation.ModuleTranslation.{ModuleTranslation}
use Rattle.init_plan.specs.Startup.{startup_kind}

-- the types of the defined tables
abbrev pub own_tables : ModuleTranslation → List Table
own_tables t = drop t.module.num_imported_tables t.module.tables

-- the defined tables, each with its initialiser
abbrev pub tables_of : ModuleTranslation → List DefinedTable
tables_of t = defined_tables_of (own_tables t) t.table_initialization.initial_values

-- the active element segments, in order
abbrev pub elements_of : ModuleTranslation → List ActiveElements
elements_of t = map active_elements_of t.table_initialization.segments.items

-- the tables of a translation, as a plan
abbrev pub plan_of_tables : ModuleTranslation → TablePlan
plan_of_tables t = table_plan_of (own_tables t) t.table_initialization.initial_values t.table_initialization.segments.items
    (images_of t.module.table_initialization)

-- a cell that is a function has an index below the number of functions
abbrev pub IsAmong : ℕ → Option ℕ → Type 0
IsAmong functions cell = IfSome cell (λ function. function < functions)

-- no table is planned yet, and all indices are in range
pub record TableHalfIsReady (t : ModuleTranslation) : Type 0 where
  pub imports : t.module.num_imported_tables ≤ length t.module.tables
  pub few_tables : length t.module.tables < 2 ^ 30
  pub few_functions : length t.module.functions < 2 ^ 30
  pub each_value : length t.table_initialization.initial_values ≡ length t.module.tables - t.module.num_imported_tables
  pub each_image : length t.module.table_initialization ≡ length t.module.tables - t.module.num_imported_tables
  pub no_images : All (λ image. image ≡ []) (images_of t.module.table_initialization)
  pub few_segments : length (elements_of t) < 2 ^ 30
  pub in_range : All (λ s. s.table < length t.module.tables) (elements_of t)
  pub functions : All (λ s. All (IsAmong (length t.module.functions)) (image_cells s.items)) (elements_of t)
  pub initial_functions : All (λ d. IsAmong (length t.module.functions) (initial_function d.initial)) (tables_of t)

-- each defined table has an initial value and an image
pub record AreCounted (t : ModuleTranslation) : Type 0 where
  pub values : length (own_tables t) ≡ length t.table_initialization.initial_values
  pub images : length t.module.table_initialization ≡ length t.table_initialization.initial_values

-- when the startup function runs, once the tables are planned so
abbrev pub startup_with_tables : ModuleTranslation → TablePlan → Startup
startup_with_tables t plan = raised_by_tables plan (startup_kind t.module.startup)

-- the plan of tables writes only these parts of a translation: the images, the initialisation of
-- tables, and startup
abbrev pub OnlyTableInitChanges : ModuleTranslation → ModuleTranslation → Type 0
OnlyTableInitChanges old new = new ≡ record old {
  «module» = record old.module { table_initialization = new.module.table_initialization; startup = new.module.startup };
  table_initialization = new.table_initialization;
}
