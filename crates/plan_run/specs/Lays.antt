-- Objects that hold what a phase leaves in them.
use Rattle.std.specs.Prelude.{◌≡◌, ℕ, ◌<◌, List, length, Option, Some, slice_get}
use Rattle.replay_spec.specs.Phases.{Phase, trap_of, content_of}

-- so many objects, of the sizes of the phase, hold at each position what it leaves there; and the
-- trap is that of the phase
pub record Lays {A : Type 0} (phase : Phase A) (wanted : ℕ) (objects : List (List A)) (trapped : Option ℕ) : Type 0 where
  pub count : length objects ≡ wanted
  pub sizes : (i : ℕ) (object : List A) → slice_get objects i ≡ Some object → length object ≡ phase.sizes i
  pub items : (i place : ℕ) (object : List A) → slice_get objects i ≡ Some object → place < phase.sizes i
      → slice_get object place ≡ Some (content_of phase i place)
  pub trap : trapped ≡ trap_of phase

-- objects of these sizes hold these items
pub record Hold {A : Type 0} (size_of : ℕ → ℕ) (item : ℕ → ℕ → A) (objects : List (List A)) : Type 0 where
  pub sizes : (i : ℕ) (object : List A) → slice_get objects i ≡ Some object → length object ≡ size_of i
  pub items : (i place : ℕ) (object : List A) → slice_get objects i ≡ Some object → place < size_of i → slice_get object place ≡ Some (item i place)
