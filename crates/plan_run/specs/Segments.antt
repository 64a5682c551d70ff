-- Segments that remain to be written.
use Rattle.std.specs.Prelude.{◌≡◌, ℕ, ◌+◌, ◌/◌, ◌<◌, ◌≤◌, Bool, true, false, if◌then◌else◌, nat_le, nat_lt, ◌==◌, ◌&&◌, List, [], ◌∷◌, length, set, Option, Some, slice_get}
use Rattle.std.specs.Option.{option_map}
use Rattle.std.specs.List.{filter_map}
use Rattle.wasm_spec.specs.Module.{Expression}
use Rattle.replay_spec.specs.Phases.{Piece, Phase, before_trap}
use Rattle.replay_spec.specs.Plan.{MemoryPlan, PlannedSegment, runtime_bytes}
use Rattle.paged_memory.specs.Memory.{Contents, reached}
use Rattle.paged_memory.specs.Writing.{written}
use Rattle.plan_run.specs.declared.laid.Way.{Way}
use Rattle.plan_run.specs.Memories.{lends, left_place}

-- what remains to be written of a segment
abbrev pub left_piece : Way → (Expression → ℕ) → MemoryPlan → PlannedSegment → Option (Piece ℕ)
left_piece w place_of plan s = option_map (λ place. record { object = s.memory; offset = place; items = runtime_bytes plan s.index }) (left_place w place_of s.offset)

abbrev pub left_pieces : Way → (Expression → ℕ) → MemoryPlan → List PlannedSegment → List (Piece ℕ)
left_pieces w place_of plan segments = filter_map (left_piece w place_of plan) segments

-- a piece is written where it fits; else nothing is
abbrev pub WritesPiece : {A : Type 0} → Piece A → List (List A) → List (List A) → Bool → Type 0
WritesPiece {A} p old new true = (object : List A) → slice_get old p.object ≡ Some object
    → (p.offset + length p.items ≤ length object) × (new ≡ set old p.object (written p.offset p.items object))
WritesPiece {A} p old new false = (object : List A) → slice_get old p.object ≡ Some object → (length object < p.offset + length p.items) × (new ≡ old)

-- whether a piece is written to a page of a memory whose pages have so many bytes
abbrev pub reaches : ℕ → ℕ → ℕ → Piece ℕ → Bool
reaches size memory page p = p.object == memory && (nat_le (p.offset / size) page && nat_lt page (p.offset / size + reached size p.offset p.items))

-- whether a page is still borrowed, once pieces are written
abbrev pub still_lent : ℕ → ℕ → ℕ → Bool → List (Piece ℕ) → Bool
still_lent size memory page lent [] = lent
still_lent size memory page lent (p ∷ ps) = still_lent size memory page (if reaches size memory page p then false else lent) ps

-- memories to which a phase is written: each has pages of the size that it had, and borrows those
-- that it borrowed, but for those that are written to
pub record LendOn (phase : Phase ℕ) (old new : List Contents) : Type 0 where
  pub sizes : (i : ℕ) (before after : Contents) → slice_get old i ≡ Some before → slice_get new i ≡ Some after → after.page ≡ before.page
  pub lent : (i page : ℕ) (before after : Contents) → slice_get old i ≡ Some before → slice_get new i ≡ Some after
      → lends after page ≡ still_lent before.page i page (lends before page) (before_trap phase.sizes phase.pieces)

-- as many memories, each with pages of the size that it had, which borrows those that it borrowed,
-- but for those that a piece is written to
pub record LendBut (p : Piece ℕ) (old new : List Contents) : Type 0 where
  pub count : length new ≡ length old
  pub sizes : (i : ℕ) (before after : Contents) → slice_get old i ≡ Some before → slice_get new i ≡ Some after → after.page ≡ before.page
  pub lent : (i page : ℕ) (before after : Contents) → slice_get old i ≡ Some before → slice_get new i ≡ Some after
      → lends after page ≡ (if reaches before.page i page p then false else lends before page)

-- a piece is written, or nothing is
abbrev pub LendAfter : Piece ℕ → List Contents → List Contents → Bool → Type 0
LendAfter p old new true = LendBut p old new
LendAfter p old new false = new ≡ old
