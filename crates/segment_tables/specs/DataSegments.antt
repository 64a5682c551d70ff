-- Data segments as rows (core specification, 2.5, data segments).
use Rattle.std.specs.Prelude.{◌≡◌, ℕ, ◌+◌, List, [], ◌∷◌, ◌++◌, length, map}
use Rattle.std.specs.List.{flat_map}
use Rattle.wasm_spec.specs.Module.{Expression, DataKind, Passive, Active, Segment}
use Rattle.segment_tables.specs.declared.segment_rows.DataSegmentRow.{DataSegmentRow}
use Rattle.segment_tables.specs.declared.expressions.ExpressionRows.{ExpressionRows}
use Rattle.segment_tables.specs.Expressions.{HasExpressions}

abbrev pub data_kind_number : DataKind → ℕ
data_kind_number Passive = 0
data_kind_number (Active memory offset) = 1

-- the memory that it writes
abbrev pub memory_number : DataKind → ℕ
memory_number Passive = 0
memory_number (Active memory offset) = memory

-- the offset of an active one
abbrev pub data_offsets : DataKind → List Expression
data_offsets Passive = []
data_offsets (Active memory offset) = offset ∷ []

-- the number of its offset, behind n other expressions
abbrev pub data_offset_number : ℕ → DataKind → ℕ
data_offset_number n Passive = 0
data_offset_number n (Active memory offset) = n

-- the kind, the memory, the number of the offset, and the bytes
abbrev pub data_told : DataSegmentRow → ℕ × ℕ × ℕ × List ℕ
data_told row = (row.kind, row.memory, row.offset, row.bytes.now)

-- segments whose offsets are behind n other expressions
abbrev pub data_rows : ℕ → List Segment → List (ℕ × ℕ × ℕ × List ℕ)
data_rows n [] = []
data_rows n (s ∷ ss) =
    (data_kind_number s.kind, memory_number s.kind, data_offset_number n s.kind, s.bytes)
    ∷ data_rows (n + length (data_offsets s.kind)) ss

-- the offsets of segments, in order
abbrev pub data_expressions : List Segment → List Expression
data_expressions ss = flat_map (λ s. data_offsets s.kind) ss

-- the segments have these rows, and their offsets are behind other expressions, while there are more
-- to come
pub record HasSegments (es : List Expression) (ss : List Segment) (out : List DataSegmentRow) (r : ExpressionRows) : Type 0 where
  pub rows : map data_told out ≡ data_rows (length es) ss
  pub expressions : HasExpressions (es ++ data_expressions ss) r
