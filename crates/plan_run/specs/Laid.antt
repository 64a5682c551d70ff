-- What a run of a translation gives, over imports.
use Rattle.std.specs.Prelude.{◌≡◌, ℕ, ◌≤◌, List, length, map, Option, Some, slice_get, All}
use Rattle.module_types.specs.TypeList.{TypeList}
use Rattle.replay_spec.specs.Values as plain
use Rattle.replay_spec.specs.Values.{offset_over}
use Rattle.replay_spec.specs.Phases.{Phase}
use Rattle.replay_spec.specs.Globals.{planned_globals}
use Rattle.replay_spec.specs.Tables.{planned_elements_phase}
use Rattle.init_plan.specs.declared.translation.ModuleTranslation.{ModuleTranslation}
use Rattle.init_plan.specs.Views.{memory_plan_of}
use Rattle.init_plan.specs.Held.{plan_of_globals}
use Rattle.init_plan.specs.Tables.{plan_of_tables}
use Rattle.paged_memory.specs.Memory.{Contents, count_lent}
use Rattle.plan_run.specs.declared.laid.Imports.{Imports}
use Rattle.plan_run.specs.declared.laid.Laid.{Laid}
use Rattle.plan_run.specs.declared.laid.Way.{Way}
use Rattle.plan_run.specs.Fields.{field_count_in}
use Rattle.plan_run.specs.Lays.{Lays}
use Rattle.plan_run.specs.Limits.{page_size_of}
use Rattle.plan_run.specs.Memories.{bytes_in, plan_phase, image_in, image_pages, is_of_image, lends}
use Rattle.plan_run.specs.Segments.{LendOn}
use Rattle.plan_run.specs.Tables.{cells_in, TablesBelow}
use Rattle.plan_run.specs.Values.{values_in, terms_of, imported_value, NamesBelow}

-- ---- what is imported

abbrev pub imported_globals : Imports → List plain.Value
imported_globals imports = map imported_value imports.globals.items

abbrev pub imported_tables : Imports → List (List plain.Value)
imported_tables imports = map (λ table. map imported_value table.items) imports.tables.items

-- ---- the phases

abbrev pub globals_in : ModuleTranslation → TypeList → Imports → List plain.Value
globals_in t types imports = planned_globals (field_count_in t types) (imported_globals imports) (plan_of_globals t)

abbrev pub data_phase : ModuleTranslation → TypeList → Way → Imports → Phase ℕ
data_phase t types w imports =
    plan_phase w (offset_over (globals_in t types imports) (field_count_in t types)) (bytes_in imports.memories.items) (memory_plan_of t)

abbrev pub element_phase : ModuleTranslation → TypeList → Imports → Phase plain.Value
element_phase t types imports = planned_elements_phase (globals_in t types imports) (field_count_in t types) (imported_tables imports) (plan_of_tables t)

-- ---- what a run gives

abbrev pub laid_globals : Laid → List plain.Value
laid_globals laid = values_in (terms_of laid.nodes.items) laid.globals.items

abbrev pub laid_tables : Laid → List (List plain.Value)
laid_tables laid = cells_in (terms_of laid.nodes.items) laid.tables.items

-- the globals have the values that the plan gives them
abbrev pub GlobalsAreLaid : ModuleTranslation → TypeList → Imports → Laid → Type 0
GlobalsAreLaid t types imports laid = laid_globals laid ≡ globals_in t types imports

-- the memories hold what the data phase of the plan leaves, and the trap is its
abbrev pub MemoriesAreLaid : ModuleTranslation → TypeList → Way → Imports → Laid → Type 0
MemoriesAreLaid t types w imports laid = Lays (data_phase t types w imports) (length t.module.memories) (bytes_in laid.memories.items) laid.memory_trap

-- the tables hold what the element phase of the plan leaves, and the trap is its
abbrev pub TablesAreLaid : ModuleTranslation → TypeList → Imports → Laid → Type 0
TablesAreLaid t types imports laid = Lays (element_phase t types imports) (length t.module.tables) (laid_tables laid) laid.table_trap

-- each value of the globals and tables names only a node that there is
pub record NamesNodes (laid : Laid) : Type 0 where
  pub globals : All (NamesBelow (length laid.nodes.items)) laid.globals.items
  pub tables : TablesBelow (length laid.nodes.items) laid.tables.items

-- a memory has pages of this size, and borrows exactly those of an image
pub record LendsImage (size : ℕ) (image : Option (ℕ × List ℕ)) (memory : Contents) : Type 0 where
  pub page_size : memory.page ≡ size
  pub lent : (page : ℕ) → lends memory page ≡ is_of_image size image page

-- defined memories borrow the images that they begin with; imported memories borrow what they
-- borrowed before, but for the pages that the phase is written to
pub record PagesAreLent (t : ModuleTranslation) (w : Way) (phase : Phase ℕ) (imported memories : List Contents) : Type 0 where
  pub defined : (i : ℕ) (memory : Contents) → slice_get memories i ≡ Some memory → t.module.num_imported_memories ≤ i
      → LendsImage (page_size_of t) (image_in w (memory_plan_of t) i) memory
  pub imports : LendOn phase imported memories

-- how many pages each defined memory borrows: those of the image that it begins with
abbrev pub LendImages : ModuleTranslation → Way → List Contents → Type 0
LendImages t w memories = (i : ℕ) (memory : Contents) → slice_get memories i ≡ Some memory → t.module.num_imported_memories ≤ i
    → count_lent memory.lent ≡ image_pages (page_size_of t) (image_in w (memory_plan_of t) i)
