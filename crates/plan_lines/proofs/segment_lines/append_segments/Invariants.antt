use Rattle.std.proofs.Common.{◌≡◌, ◌++◌, take}
use Rattle.std.specs.List.{flat_map}
use Rattle.wasm_index.specs.Index.{number_of}
use Rattle.plan_lines.specs.SegmentLines.{segment_line}
use Rattle.plan_lines.proofs.segment_lines.append_segments.Given as goal

abbrev pub invariant-loop-memory : goal.invariant-loop-memory
invariant-loop-memory l = l.text ≡ l.initial.text
    ++ flat_map (λ s. segment_line (number_of s.0) (number_of s.2) s.1) (take l.memory-index l.memory-items)
