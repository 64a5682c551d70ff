use Rattle.std.proofs.Common.{List, map, take}
use Rattle.std.specs.List.{flat_map}
use Rattle.wasm_spec.specs.Module.{Expression, segments_of_section}
use Rattle.form_reader.specs.Views.{payload_of}
use Rattle.segment_tables.specs.Expressions.{HasExpressions}
use Rattle.segment_tables.specs.DataSegments.{HasSegments}
use Rattle.segment_tables.proofs.data_segments.data_rows.Given as goal

abbrev pub invariant-loop-payload : goal.invariant-loop-payload
invariant-loop-payload l = (es : List Expression) → HasExpressions es l.initial.rows
    → HasSegments es (flat_map segments_of_section (map payload_of (take l.payload-index l.payloads))) l.out.items l.rows
