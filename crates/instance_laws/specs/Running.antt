-- Segments written one after another, item by item (core specification, 4.6, memory.init and
-- table.init; 4.7, instantiation).
use Rattle.std.specs.Prelude.{◌≡◌, ℕ, suc, ◌==◌, ◌&&◌, List, [], ◌∷◌, length, Option, None, Some, if◌then◌else◌}
use Rattle.replay_spec.specs.Phases.{Piece, Phase, fits, trap_of, content_of}

-- what is at each position of each object
abbrev pub Store : Type 0 → Type 0
Store A = ℕ → ℕ → A

-- one item is stored at a position of an object
abbrev pub stored : {A : Type 0} → Store A → ℕ → ℕ → A → Store A
stored store object place x o p = if object == o && place == p then x else store o p

-- items are stored one after another, from a position on
abbrev pub initialised : {A : Type 0} → Store A → ℕ → ℕ → List A → Store A
initialised store object place [] = store
initialised store object place (x ∷ xs) = initialised (stored store object place x) object (suc place) xs

-- what a run leaves, and the number of the segment that trapped, counted from the last, which is 1;
-- none where none did
pub record Outcome (A : Type 0) : Type 0 where
  pub store : Store A
  pub trap : Option ℕ

-- each segment in turn: one that does not fit traps before it stores anything, and no later one is
-- run
abbrev pub run_pieces : {A : Type 0} → (ℕ → ℕ) → Store A → List (Piece A) → Outcome A
run_pieces sizes store [] = record { store = store; trap = None }
run_pieces sizes store (p ∷ ps) =
    if fits sizes p then run_pieces sizes (initialised store p.object p.offset p.items) ps else record { store = store; trap = Some (suc (length ps)) }

abbrev pub run_of : {A : Type 0} → Phase A → Outcome A
run_of phase = run_pieces phase.sizes phase.base phase.pieces

-- the run traps where the phase does, and leaves at each position what the phase leaves there
pub record LeavesPhase {A : Type 0} (phase : Phase A) : Type 0 where
  pub trap : (run_of phase).trap ≡ trap_of phase
  pub places : (object place : ℕ) → (run_of phase).store object place ≡ content_of phase object place
