-- What the tables say of how globals begin.
use Rattle.std.specs.Prelude.{◌≡◌, map}
use Rattle.wasm_index.specs.declared.index.Index.{Index}
use Rattle.wasm_index.specs.declared.spaces.DefinedGlobalSpace.{DefinedGlobalSpace}
use Rattle.wasm_index.specs.Index.{number_of}
use Rattle.wasm_convert.specs.declared.values.GlobalConstValue.{GlobalConstValue}
use Rattle.init_plan.specs.declared.translation.ModuleTranslation.{ModuleTranslation}
use Rattle.plan_lines.specs.GlobalLines.{constant_of}
use Rattle.plan_tables.specs.declared.record.GlobalsRecord.{GlobalsRecord}
use Rattle.plan_tables.specs.declared.rows.GlobalValueRow.{GlobalValueRow}
use Rattle.plan_tables.specs.Operators.{operator_row}

-- a defined global that begins as a known value, by the operator that gives it
abbrev pub global_value_row : Index DefinedGlobalSpace × GlobalConstValue → GlobalValueRow
global_value_row g = record { global = number_of g.0; value = operator_row (constant_of g.1) }

pub record TellsGlobals (t : ModuleTranslation) (r : GlobalsRecord) : Type 0 where
  pub values : r.values.now ≡ map global_value_row t.module.global_initializers.items
  -- the other defined globals
  pub expressed : r.expressed.now ≡ map (λ g. number_of g.0) t.global_initializers.items
