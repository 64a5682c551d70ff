use Rattle.std.proofs.Common.{◌≡◌, Bool, true, false, refl}
use Rattle.std.specs.Prelude.{◌&&◌, if◌then◌else◌}
use Rattle.replay_spec.specs.Startup.{Startup, Never, Always, leaves_nothing, keeps_no_table, keeps_no_data, raised_by_images}
use Rattle.replay_spec.proofs.startup_laws.startup_law.Goals as goal

module _ (by_images : Startup → Startup) (stays : by_images Always ≡ Always) where
  memories-first : (left tables memories : Bool)
      → (if tables then (if memories then by_images (if left then Never else Always) else Always) else Always) ≡ (if left && tables && memories then by_images Never else Always)
  memories-first true true true = refl
  memories-first true true false = refl
  memories-first true false memories = refl
  memories-first false true true = stays
  memories-first false true false = refl
  memories-first false false memories = refl

  tables-first : (left tables memories : Bool)
      → (if memories then by_images (if tables then (if left then Never else Always) else Always) else Always) ≡ (if left && tables && memories then by_images Never else Always)
  tables-first true true true = refl
  tables-first true true false = refl
  tables-first true false true = stays
  tables-first true false false = refl
  tables-first false true true = stays
  tables-first false true false = refl
  tables-first false false true = stays
  tables-first false false false = refl

pub returns-clause-memories_first : goal.returns-clause-memories_first
returns-clause-memories_first c = λ l tables memories.
    memories-first (raised_by_images memories) refl (leaves_nothing l) (keeps_no_table tables) (keeps_no_data memories)

pub returns-clause-tables_first : goal.returns-clause-tables_first
returns-clause-tables_first c = λ l tables memories.
    tables-first (raised_by_images memories) refl (leaves_nothing l) (keeps_no_table tables) (keeps_no_data memories)
