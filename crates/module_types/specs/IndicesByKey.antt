-- Indices that are recorded under keys.
use Rattle.std.specs.Prelude.{ℕ, List, map, slice_get, Option, option_and_then}
use Rattle.entity_map.specs.Packed.{unpacked}

-- the index that is recorded under a key, in a list that has it at that position
abbrev pub noted_at : List (Option ℕ) → ℕ → Option ℕ
noted_at notes n = option_and_then (λ k. k) (slice_get notes n)

-- an index, where the reserved number represents none
abbrev pub note_of : ℕ → Option ℕ
note_of n = unpacked (λ k. k) n

abbrev pub notes_of : List ℕ → List (Option ℕ)
notes_of items = map note_of items
