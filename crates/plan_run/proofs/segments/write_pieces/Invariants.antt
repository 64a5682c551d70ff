use Rattle.std.proofs.Common.{◌≡◌, ℕ, [], length, map, drop}
use Rattle.replay_spec.specs.Phases.{Phase}
use Rattle.plan_run.specs.Lays.{Hold}
use Rattle.plan_run.specs.Memories.{bytes_in, data_piece}
use Rattle.plan_run.proofs.LentPages.{IsLending}
use Rattle.plan_run.proofs.Writing.{IsWriting}
use Rattle.plan_run.proofs.segments.write_pieces.Given as goal

abbrev pub invariant-loop-i : goal.invariant-loop-i
invariant-loop-i l = record {
  count : length l.memories.items ≡ length l.fn.memories.items;
  writing : (phase : Phase ℕ) → phase.pieces ≡ map data_piece l.pieces → Hold phase.sizes phase.base (bytes_in l.fn.memories.items)
      → IsWriting phase (map data_piece (drop l.i l.pieces)) (bytes_in l.memories.items);
  lending : (phase : Phase ℕ) → phase.pieces ≡ map data_piece l.pieces → Hold phase.sizes phase.base (bytes_in l.fn.memories.items)
      → IsLending phase (map data_piece (drop l.i l.pieces)) l.fn.memories.items l.memories.items;
  still : l.pieces ≡ [] → l.memories ≡ l.fn.memories;
}
