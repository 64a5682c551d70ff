-- What a module, and its plan, make an instance of.
use Rattle.std.specs.Prelude.{◌≡◌, ℕ, ◌+◌, List, length, map, slice_get}
use Rattle.std.specs.Option.{option_map}
use Rattle.wasm_spec.specs.Module.{Module, table_import, imported_of, imported_memories, defined_memories}
use Rattle.rule_spec.specs.Lists.{lists_of_module}
use Rattle.wasm_index.specs.Index.{number_of}
use Rattle.replay_spec.specs.Phases.{last_item}
use Rattle.replay_spec.specs.Values.{Value, offset_over}
use Rattle.replay_spec.specs.Data.{piece_of, active_segments, minimum_size}
use Rattle.replay_spec.specs.Elements.{elements_piece, first_cell, defined_tables, active_elements}
use Rattle.replay_spec.specs.Globals.{planned_globals}
use Rattle.replay_spec.specs.Plan.{planned_piece, image_pieces, kept_segments}
use Rattle.replay_spec.specs.Tables.{planned_first}
use Rattle.init_plan.specs.declared.translation.ModuleTranslation.{ModuleTranslation}
use Rattle.init_plan.specs.Agreement.{fields_of, globals_of}
use Rattle.init_plan.specs.Views.{memory_plan_of}
use Rattle.init_plan.specs.Tables.{plan_of_tables}
use Rattle.init_plan.specs.Held.{plan_of_globals}
use Rattle.instance_laws.specs.Objects.{Objects, Addresses, AreFree}
use Rattle.instance_laws.specs.Instances.{Recipe, Instance, SameInstance, OwnAfterTrap, instantiated}

-- the module's own initialisers, all written
abbrev pub recipe_of_module : Module → List Value → Recipe
recipe_of_module m imported = let l = lists_of_module m in let globals = globals_of m imported in let fields = fields_of m in record {
  globals = globals;
  table_sizes = map (λ t. t.minimum) (defined_tables l);
  cells = λ k place. first_cell globals fields (slice_get (defined_tables l) k);
  elements = map (elements_piece globals fields) (active_elements l.elements);
  memory_sizes = map minimum_size (defined_memories m);
  bytes = λ k place. 0;
  segments = map (piece_of (offset_over globals fields)) (active_segments m);
  start = slice_get l.starts 0;
}

-- the plan by its list: tables begin as their images, memories with zeros, and every entry of the
-- list is written
abbrev pub recipe_by_list : (ℕ → ℕ) → ModuleTranslation → List Value → Recipe
recipe_by_list fields t imported = let globals = planned_globals fields imported (plan_of_globals t) in let tables = plan_of_tables t in let plan = memory_plan_of t in record {
  globals = globals;
  table_sizes = map (λ p. p.minimum) tables.tables;
  cells = λ k place. planned_first globals fields (slice_get tables.tables k) place;
  elements = map (elements_piece globals fields) tables.segments;
  memory_sizes = plan.sizes;
  bytes = λ k place. 0;
  segments = map (planned_piece (offset_over globals fields) plan) plan.segments;
  start = option_map number_of t.start_func;
}

-- the plan by its map: memories begin as their images too, and the entries with an expression are
-- written
abbrev pub recipe_by_map : (ℕ → ℕ) → ModuleTranslation → List Value → Recipe
recipe_by_map fields t imported = let plan = memory_plan_of t in record (recipe_by_list fields t imported) {
  bytes = λ k place. last_item (t.module.num_imported_memories + k) place 0 (image_pieces plan 0 plan.images);
  segments = map (piece_of (offset_over (planned_globals fields imported (plan_of_globals t)) fields)) (kept_segments plan);
}

-- what a module is instantiated over: values of its imported globals, and an address for each table
-- and memory that it imports, of which two may be one
pub record MayInstantiate (m : Module) (imported : List Value) (table_addresses memory_addresses : Addresses) (tables : Objects Value) (memories : Objects ℕ) : Type 0 where
  pub globals : length imported ≡ (lists_of_module m).imported_globals
  pub each_table : length table_addresses.imported ≡ length (imported_of table_import m)
  pub each_memory : length memory_addresses.imported ≡ length (imported_memories m)
  pub free_tables : AreFree table_addresses tables
  pub free_memories : AreFree memory_addresses memories

-- Over any objects, instantiating the plan is instantiating the module: the same globals, tables
-- and memories, the same trap, the same start.
-- Read by its map there is one exception: where an element segment traps, memories that begin as
-- images hold what no data segment wrote.
pub record InstantiatesAlike (m : Module) (t : ModuleTranslation) : Type 0 where
  pub by_list : (imported : List Value) (ta ma : Addresses) (tables : Objects Value) (memories : Objects ℕ) → MayInstantiate m imported ta ma tables memories
      → SameInstance (λ at. ⊥) (instantiated ta ma tables memories (recipe_of_module m imported)) (instantiated ta ma tables memories (recipe_by_list (fields_of m) t imported))
  pub by_map : (imported : List Value) (ta ma : Addresses) (tables : Objects Value) (memories : Objects ℕ) → MayInstantiate m imported ta ma tables memories
      → SameInstance (OwnAfterTrap ma.first (instantiated ta ma tables memories (recipe_of_module m imported)))
      (instantiated ta ma tables memories (recipe_of_module m imported)) (instantiated ta ma tables memories (recipe_by_map (fields_of m) t imported))
