use Rattle.std.proofs.Common.{◌++◌, map, take}
use Rattle.init_plan.specs.Tables.{plan_of_tables}
use Rattle.plan_run.specs.Evaluation.{globals_of, fields_of, Grows}
use Rattle.plan_run.specs.Tables.{first_cells, TablesMean}
use Rattle.plan_run.specs.Values.{imported_value}
use Rattle.plan_run.proofs.evaluation.Evaluator.first_tables.Given as goal

abbrev pub invariant-loop-number : goal.invariant-loop-number
invariant-loop-number l = record {
  grows : Grows l.fn.self l.self;
  means : TablesMean l.self.nodes.items l.tables.items (map (λ table. map imported_value table.items) l.fn.imported.items
      ++ map (first_cells (globals_of l.fn.self) (fields_of l.fn.self)) (take l.number (plan_of_tables l.fn.self.translation.now).tables));
}
