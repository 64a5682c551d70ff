use Rattle.std.proofs.Common.{List, ◌++◌, map, take}
use Rattle.wasm_spec.specs.Module as plain
use Rattle.wasm_spec.specs.Module.{Expression}
use Rattle.form_reader.specs.Views.{segment_of}
use Rattle.segment_tables.specs.DataSegments.{HasSegments}
use Rattle.segment_tables.proofs.data_segments.push_segments.Given as goal

abbrev pub invariant-loop-segment : goal.invariant-loop-segment
invariant-loop-segment l = (es : List Expression) (ss : List plain.Segment) → HasSegments es ss l.initial.out.items l.initial.rows
    → HasSegments es (ss ++ map segment_of (take l.segment-index l.segments)) l.out.items l.rows
