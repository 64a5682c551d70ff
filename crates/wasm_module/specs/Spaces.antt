-- The index spaces of functions, tables, memories, globals and tags (core specification, 2.5,
-- indices): in each the imported entities are first, and the defined ones follow.
use Rattle.std.specs.Prelude.{◌≡◌, ℕ, ◌+◌, ◌-◌, ◌<◌, nat_lt, List, map, Option, Some, None, if◌then◌else◌}
use Rattle.std.specs.List.{range_with_len}
use Rattle.wasm_index.specs.Index.{number_of, index_of}
use Rattle.wasm_index.specs.declared.index.Index.{Index}

-- the index of a defined entity, after `imported` imported ones
abbrev pub index_after : {Space Defined : Type 0} → ℕ → Index Defined → Index Space
index_after imported defined = index_of (imported + number_of defined)

-- the defined entity at an index, which is none exactly for an imported one
abbrev pub defined_at : {Space Defined : Type 0} → ℕ → Index Space → Option (Index Defined)
defined_at imported index = if nat_lt (number_of index) imported then None else Some (index_of (number_of index - imported))

-- the first `count` indices, in order
abbrev pub first_indices : {Space : Type 0} → ℕ → List (Index Space)
first_indices count = map index_of (range_with_len 0 count)

-- the defined entity at the index of a defined entity is that entity, wherever it has an index
abbrev pub ComesBack : (Space Defined : Type 0) → ℕ → Type 0
ComesBack Space Defined imported =
    (d : Index Defined) → imported + number_of d < 4294967295 → defined_at imported (index_after {Space = Space} imported d) ≡ Some d
