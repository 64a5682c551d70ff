use Rattle.std.proofs.Common.{◌≡◌, ◌++◌}
use Rattle.std.specs.List.{flat_map}
use Rattle.entity_map.specs.Keyed.{keyed}
use Rattle.wasm_index.specs.Index.{index_of}
use Rattle.plan_tables.specs.Functions.{passive_segment_row}
use Rattle.plan_tables.proofs.functions.passive_segments_of.Given as goal

abbrev pub invariant-loop-segment : goal.invariant-loop-segment
invariant-loop-segment l = l.rows.items ++ flat_map (λ p. passive_segment_row p.0 p.1) l.segment-iterator ≡ flat_map (λ p. passive_segment_row p.0 p.1) (keyed index_of l.numbers.items)
