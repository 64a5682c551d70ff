use Rattle.std.proofs.Common.{map, take}
use Rattle.replay_spec.specs.Elements.{elements_piece}
use Rattle.table_images.specs.Views.{active_elements_of}
use Rattle.plan_run.specs.Evaluation.{globals_of, fields_of, Grows}
use Rattle.plan_run.specs.Tables.{PiecesMean}
use Rattle.plan_run.proofs.evaluation.Evaluator.pieces_kept.Given as goal

abbrev pub invariant-loop-segment : goal.invariant-loop-segment
invariant-loop-segment l = record {
  grows : Grows l.fn.self l.self;
  means : PiecesMean l.self.nodes.items l.pieces.items
      (map (elements_piece (globals_of l.fn.self) (fields_of l.fn.self)) (map active_elements_of (take l.segment-index l.segment-items)));
}
