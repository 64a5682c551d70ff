-- What the tables say of constant expressions.
use Rattle.std.specs.Prelude.{◌≡◌, List, [], length, map}
use Rattle.std.specs.List.{flat_map}
use Rattle.wasm_convert.specs.declared.operators.ConstOp.{ConstOp}
use Rattle.wasm_module.specs.declared.table_initialization.TableInitialValue.{TableInitialValue}
use Rattle.wasm_module.specs.declared.table_initialization.TableInitialValue.TheVariants as initial
use Rattle.init_plan.specs.declared.translation.MemorySegmentOffset.{MemorySegmentOffset}
use Rattle.init_plan.specs.declared.translation.MemorySegmentOffset.TheVariants as offset
use Rattle.init_plan.specs.declared.translation.ModuleTranslation.{ModuleTranslation}
use Rattle.plan_tables.specs.declared.record.ExpressionsRecord.{ExpressionsRecord}
use Rattle.plan_tables.specs.declared.record.PlacesRecord.{PlacesRecord}
use Rattle.plan_tables.specs.Operators.{operator_row}
use Rattle.plan_tables.specs.Segments.{planned_of}
use Rattle.plan_tables.specs.Spans.{spans_from}

-- the operators of an offset that is an expression
abbrev pub offset_operators : MemorySegmentOffset → List ConstOp
offset_operators (offset.Expr e) = e
offset_operators (offset.Static place) = []

-- the operators of a first value that is no null reference
abbrev pub value_operators : TableInitialValue → List ConstOp
value_operators initial.Null = []
value_operators (initial.Expr e) = e

-- the operators of each item of a list, end to end
pub record TellsExpressions {X : Type 0} (operators : X → List ConstOp) (xs : List X) (r : ExpressionsRecord) : Type 0 where
  pub parts : r.parts.now ≡ spans_from 0 (map (λ x. length (operators x)) xs)
  pub rows : r.operators.now ≡ flat_map (λ x. map operator_row (operators x)) xs

pub record TellsPlaces (t : ModuleTranslation) (r : PlacesRecord) : Type 0 where
  pub globals : TellsExpressions (λ g. g.1) t.global_initializers.items r.globals
  pub segments : TellsExpressions (λ s. offset_operators s.1) (planned_of t.memory_init) r.segments
  pub elements : TellsExpressions (λ s. s.offset) t.table_initialization.segments.items r.elements
  pub tables : TellsExpressions value_operators t.table_initialization.initial_values r.tables
