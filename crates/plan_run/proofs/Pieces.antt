-- What remains to be written are the pieces of the phase.
use Rattle.std.proofs.Common.{◌≡◌, ℕ, List, [], ◌∷◌, map, refl, arith}
use Rattle.std.specs.List.{filter_map}
use Rattle.wasm_spec.specs.Module.{Expression}
use Rattle.replay_spec.specs.Data.{piece_of}
use Rattle.replay_spec.specs.Plan.{MemoryPlan, PlannedSegment, planned_piece, left_to_write}
use Rattle.plan_run.specs.declared.laid.Way.{Way}
use Rattle.plan_run.specs.declared.laid.Way.TheVariants as way
use Rattle.plan_run.specs.Memories.{plan_phase}
use Rattle.plan_run.specs.Segments.{left_pieces}

module _ (place_of : Expression → ℕ) (plan : MemoryPlan) where
  listed : (segments : List PlannedSegment) → map (planned_piece place_of plan) segments ≡ left_pieces way.Copy place_of plan segments
  listed [] = refl
  listed (s ∷ ss) = grind (arith, listed ss)

  mapped : (segments : List PlannedSegment)
      → map (piece_of place_of) (filter_map (λ s. left_to_write plan s.offset s.memory s.index) segments) ≡ left_pieces way.Map place_of plan segments
  mapped [] = refl
  mapped (s ∷ ss) = grind (arith, mapped ss)

  pub pieces-left : (w : Way) (imported : List (List ℕ)) → (plan_phase w place_of imported plan).pieces ≡ left_pieces w place_of plan plan.segments
  pieces-left way.Map imported = mapped plan.segments
  pieces-left way.Copy imported = listed plan.segments
