use Rattle.std.proofs.Common.{◌≡◌, ◌++◌, map, drop}
use Rattle.init_plan.specs.Views.{memory_plan_of, planned_segment_of, processed_of}
use Rattle.plan_run.specs.Evaluation.{offset_position, Grows}
use Rattle.plan_run.specs.Memories.{data_piece}
use Rattle.plan_run.specs.Segments.{left_pieces}
use Rattle.plan_run.proofs.evaluation.Evaluator.pieces_left.Given as goal

-- with those of the segments that remain, the pieces are all
abbrev pub invariant-loop-memory : goal.invariant-loop-memory
invariant-loop-memory l = let left = left_pieces l.way (offset_position l.fn.self) (memory_plan_of l.fn.self.translation.now) in record {
  grows : Grows l.fn.self l.self;
  so_far : map data_piece l.pieces.items ++ left (map planned_segment_of (drop l.memory-index l.memory-items)) ≡ left (processed_of l.fn.self.translation.now.memory_init);
}
