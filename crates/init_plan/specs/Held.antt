-- What a translation holds of the lists of a module.
use Rattle.std.specs.Prelude.{◌≡◌, ℕ, ◌-◌, List, length, map}
use Rattle.wasm_spec.specs.Module.{Expression, Module, table_import, imported_of, imported_memories, memories}
use Rattle.rule_spec.specs.Lists.{lists_of_module}
use Rattle.wasm_index.specs.declared.index.Index.{Index}
use Rattle.wasm_index.specs.declared.spaces.DefinedGlobalSpace.{DefinedGlobalSpace}
use Rattle.wasm_index.specs.Index.{number_of}
use Rattle.wasm_types.specs.Memories.{memory_of}
use Rattle.wasm_convert.specs.declared.operators.ConstOp.{ConstOp}
use Rattle.wasm_convert.specs.declared.values.GlobalConstValue.{GlobalConstValue}
use Rattle.wasm_convert.specs.Constants.{expression_of, plain_value_of}
use Rattle.replay_spec.specs.Values.{Value}
use Rattle.replay_spec.specs.Globals.{GlobalPlan, IsGlobalPlan}
use Rattle.replay_spec.specs.Held.{held_segments, held_tables, held_elements, held_initialisers}
use Rattle.init_plan.specs.declared.translation.ModuleTranslation.{ModuleTranslation}
use Rattle.init_plan.specs.Views.{initializers_of}
use Rattle.init_plan.specs.Tables.{tables_of, elements_of}

-- the active data segments and the memories are those of the module
pub record HoldsMemories (m : Module) (t : ModuleTranslation) : Type 0 where
  pub imports : t.module.num_imported_memories ≡ length (imported_memories m)
  pub memories : t.module.memories ≡ map memory_of (memories m)
  pub active : initializers_of t ≡ held_segments m

-- the active element segments and the defined tables are those of the module
pub record HoldsTables (m : Module) (t : ModuleTranslation) : Type 0 where
  pub imports : t.module.num_imported_tables ≡ length (imported_of table_import m)
  pub tables : tables_of t ≡ held_tables (lists_of_module m)
  pub active : elements_of t ≡ held_elements (lists_of_module m).elements

abbrev pub simple_global_of : Index DefinedGlobalSpace × GlobalConstValue → ℕ × Value
simple_global_of g = (number_of g.0, plain_value_of g.1)

abbrev pub kept_global_of : Index DefinedGlobalSpace × List ConstOp → ℕ × Expression
kept_global_of g = (number_of g.0, expression_of g.1)

-- the defined globals of a translation, as a plan
abbrev pub plan_of_globals : ModuleTranslation → GlobalPlan
plan_of_globals t = record {
  count = length t.module.globals - t.module.num_imported_globals;
  simple = map simple_global_of t.module.global_initializers.items;
  kept = map kept_global_of t.global_initializers.items;
}

-- constant first values are in the record, and the other initialisers are kept
abbrev pub HoldsGlobals : Module → ModuleTranslation → Type 0
HoldsGlobals m t = IsGlobalPlan (held_initialisers (lists_of_module m)) (plan_of_globals t)
