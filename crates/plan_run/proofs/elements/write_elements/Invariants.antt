use Rattle.std.proofs.Common.{◌≡◌, ℕ, List, length, map, drop}
use Rattle.std.specs.Prelude.{All}
use Rattle.replay_spec.specs.Phases.{Phase}
use Rattle.replay_spec.specs.Values as plain
use Rattle.replay_spec.specs.Values.{Term}
use Rattle.plan_run.specs.Lays.{Hold}
use Rattle.plan_run.specs.Tables.{cells_in, element_piece, TablesBelow}
use Rattle.plan_run.specs.Values.{NamesBelow}
use Rattle.plan_run.proofs.Writing.{IsWriting}
use Rattle.plan_run.proofs.elements.write_elements.Given as goal

abbrev pub invariant-loop-i : goal.invariant-loop-i
invariant-loop-i l = record {
  count : length l.tables.items ≡ length l.fn.tables.items;
  writing : (terms : List Term) (phase : Phase plain.Value) → phase.pieces ≡ map (element_piece terms) l.pieces
      → Hold phase.sizes phase.base (cells_in terms l.fn.tables.items)
      → IsWriting phase (map (element_piece terms) (drop l.i l.pieces)) (cells_in terms l.tables.items);
  below : (k : ℕ) → TablesBelow k l.fn.tables.items → All (λ p. All (NamesBelow k) p.items.items) l.pieces → TablesBelow k l.tables.items;
}
