use Rattle.std.proofs.Common.{◌∙◌, map, arith}
use Rattle.init_plan.specs.Views.{memory_plan_of}
use Rattle.plan_run.specs.Evaluation.{offset_position}
use Rattle.plan_run.specs.Memories.{data_piece}
use Rattle.plan_run.proofs.LeftSteps.{left-step}
use Rattle.plan_run.proofs.Terms.{grows-on}
use Rattle.plan_run.proofs.evaluation.Evaluator.pieces_left.Goals as goal

pub loop-memory-preserved : goal.loop-memory-preserved
loop-memory-preserved c =
    let e = c.args.self.now in
    let s = c.loop-memory-item.result in
    let grows = c.loop-memory.invariant.grows in
    record {
      grows = grows-on grows c.in_ok-place.ensures.grows;
      so_far = left-step c.args.way (offset_position e) (memory_plan_of e.translation.now) c.deref-memory-items.result.now
          c.loop-memory.memory-index s s (map data_piece c.loop-memory.pieces.items) (map data_piece c.push_piece.new.pieces.items) c.in_ok-place.place (omega arith)
          c.loop-memory-item.is (rw (grows.values, grows.translation, grows.types) at c.in_ok-place.ensures.place)
          (rw (c.index.ensures.number, c.bytes_of.ensures) at c.in_ok-push_piece.ensures) ∙ c.loop-memory.invariant.so_far;
    }
