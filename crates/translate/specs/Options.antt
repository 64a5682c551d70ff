-- What a module is planned with, and the rules of images over its lists.
use Rattle.std.specs.Prelude.{ℕ, Bool, true, false, List, length, map}
use Rattle.wasm_spec.specs.Module.{Module, segments, table_import, imported_of, imported_memories, defined_memories}
use Rattle.rule_spec.specs.Lists.{lists_of_module}
use Rattle.wasm_types.specs.declared.tunables.Tunables.{Tunables}
use Rattle.replay_spec.specs.Held.{held_segments, held_tables, held_elements}
use Rattle.replay_spec.specs.Images.{ImageOptions, IsStatic, IsMemoryPlan, image_memory_of}
use Rattle.replay_spec.specs.Plan.{MemoryPlan}
use Rattle.replay_spec.specs.Startup.{Startup, Never, Always, IfMemoriesNeedInit, startup_of}
use Rattle.replay_spec.specs.Tables.{TablePlan, IsTablePlan}
use Rattle.init_plan.specs.Images.{image_options, HasRuntimeSize}
use Rattle.module_sections.specs.Initialisers.{passive_data_from}
use Rattle.command_words.specs.declared.command.Collector.{Collector}
use Rattle.command_words.specs.declared.command.Collector.TheVariants.{Drc, Null}
use Rattle.command_words.specs.declared.command.Command.{Command}

-- what images are planned with: the switches, the page size of images, and an extent below which
-- one is always made
pub record InitOptions : Type 0 where
  pub tunables : Tunables
  pub page_size : ℕ
  pub max_image : ℕ

abbrev pub init_options : Tunables → ℕ → ℕ → InitOptions
init_options tunables page_size max_image = record { tunables = tunables; page_size = page_size; max_image = max_image }

-- what a module is planned with: also how objects are collected, and the size of a pointer
pub record Options : Type 0 where
  pub init : InitOptions
  pub collector : Collector
  pub pointer : ℕ

abbrev pub with_options : Tunables → Collector → ℕ → ℕ → ℕ → Options
with_options tunables collector pointer page_size max_image =
    record { init = init_options tunables page_size max_image; collector = collector; pointer = pointer }

-- the options of a command
abbrev pub options_of : Command → Options
options_of c = with_options c.tunables c.collector c.ptr c.page_size c.max_image

abbrev pub images : InitOptions → ImageOptions
images i = image_options i.tunables i.page_size i.max_image

-- the bytes that each object of the collector's heap begins with
abbrev pub header_size : Collector → ℕ
header_size Drc = 24
header_size Null = 8

-- the bytes of the passive data segments
abbrev pub passive_bytes : Module → List (List ℕ)
passive_bytes m = map (λ p. p.1) (passive_data_from 0 (segments m))

module _ (i : InitOptions) (m : Module) where
  -- all active data segments of the module become images
  abbrev pub BecomesImages : Type 0
  BecomesImages = IsStatic (images i) (length (imported_memories m)) (map image_memory_of (defined_memories m)) (held_segments m)

  -- a plan of its memories
  abbrev pub PlansMemories : MemoryPlan → Type 0
  PlansMemories plan = IsMemoryPlan (images i) (length (imported_memories m)) (map image_memory_of (defined_memories m)) (held_segments m) (passive_bytes m) plan

  -- its runtime data have so many bytes as a fact says
  abbrev pub HasDataSize : (ℕ → Type 0) → Type 0
  HasDataSize P =
      HasRuntimeSize (images i) (length (imported_memories m)) (map image_memory_of (defined_memories m)) (held_segments m) (passive_bytes m) P

  -- a plan of its tables
  abbrev pub PlansTables : TablePlan → Type 0
  PlansTables plan = let l = lists_of_module m in
      IsTablePlan i.tunables.table_lazy_init (length (imported_of table_import m)) (held_tables l) (held_elements l.elements) plan

-- when its startup function runs
abbrev pub startup_by : Module → MemoryPlan → TablePlan → Startup
startup_by m memories tables = startup_of (lists_of_module m) tables memories

-- whether there is a startup function
abbrev pub runs : Startup → Bool
runs Never = false
runs Always = true
runs IfMemoriesNeedInit = true
