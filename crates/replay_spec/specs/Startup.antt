-- When the startup function of a module runs: it does what instantiation leaves to be done (core
-- specification, 4.7, instantiation).
use Rattle.std.specs.Prelude.{◌&&◌, Bool, true, false, is_none, List, [], ◌∷◌, map, if◌then◌else◌}
use Rattle.std.specs.List.{filter, filter_map, list_all}
use Rattle.wasm_spec.specs.Module.{Expression, GlobalDef, ElementKind, PassiveElement, Element}
use Rattle.rule_spec.specs.Lists.{Lists}
use Rattle.replay_spec.specs.Values.{const_value}
use Rattle.replay_spec.specs.Plan.{MemoryPlan, kept_segments}
use Rattle.replay_spec.specs.Tables.{TablePlan}

pub data Startup : Type 0 where
  -- there is nothing to run
  Never : Startup
  Always : Startup
  -- where a memory does not already begin as its image
  IfMemoriesNeedInit : Startup

abbrev pub is_empty : {A : Type 0} → List A → Bool
is_empty [] = true
is_empty (x ∷ xs) = false

-- ---- the six causes why it always runs: lists of what remains to be done

-- the initialisers of globals that have no constant value
abbrev pub kept_globals : List GlobalDef → List Expression
kept_globals globals = filter (λ e. is_none (const_value e)) (map (λ g. g.init) globals)

abbrev pub is_passive : ElementKind → Bool
is_passive PassiveElement = true
is_passive _ = false

abbrev pub passive_elements : List Element → List Element
passive_elements elements = filter (λ e. is_passive e.kind) elements

-- the initialisers of tables that are not in images
abbrev pub kept_initials : TablePlan → List Expression
kept_initials plan = filter_map (λ t. t.initial) plan.tables

-- global initialisers, a start function and passive element segments
abbrev pub leaves_nothing : Lists → Bool
leaves_nothing l = is_empty (kept_globals l.globals) && is_empty l.starts && is_empty (passive_elements l.elements)

-- initialisers of tables and element segments
abbrev pub keeps_no_table : TablePlan → Bool
keeps_no_table plan = is_empty (kept_initials plan) && is_empty plan.segments

-- data segments
abbrev pub keeps_no_data : MemoryPlan → Bool
keeps_no_data plan = is_empty (kept_segments plan)

abbrev pub has_no_image : MemoryPlan → Bool
has_no_image plan = list_all is_none plan.images

-- ---- the startup rule

-- it always runs where there is a cause; else where memories need their images; else never
abbrev pub startup_of : Lists → TablePlan → MemoryPlan → Startup
startup_of l tables memories =
    if leaves_nothing l && keeps_no_table tables && keeps_no_data memories then (if has_no_image memories then Never else IfMemoriesNeedInit) else Always

-- ---- how the plan reaches it: it is never lowered

-- before tables and memories are planned
abbrev pub first_startup : Lists → Startup
first_startup l = if leaves_nothing l then Never else Always

-- by the plan of tables
abbrev pub raised_by_tables : TablePlan → Startup → Startup
raised_by_tables plan startup = if keeps_no_table plan then startup else Always

-- by images of memories, where nothing runs yet
abbrev pub raised_by_images : MemoryPlan → Startup → Startup
raised_by_images plan Never = if has_no_image plan then Never else IfMemoriesNeedInit
raised_by_images plan startup = startup

-- by the plan of memories
abbrev pub raised_by_memories : MemoryPlan → Startup → Startup
raised_by_memories plan startup = if keeps_no_data plan then raised_by_images plan startup else Always
