use Rattle.std.proofs.Common.{◌≤◌, length}
use Rattle.std.specs.List.{All}
use Rattle.std.specs.Prelude.{Option}
use Rattle.entity_map.specs.Keyed.{keyed}
use Rattle.wasm_index.specs.declared.index.Index.{Index}
use Rattle.wasm_index.specs.declared.spaces.DataSpace.{DataSpace}
use Rattle.wasm_index.specs.declared.spaces.RuntimeDataSpace.{RuntimeDataSpace}
use Rattle.wasm_index.specs.Index.{index_of}
use Rattle.plan_lines.specs.MemoryLines.{passive_lines}
use Rattle.plan_laws.proofs.memory_bytes.each_passive.Given as goal

abbrev pub invariant-loop-segment : goal.invariant-loop-segment
invariant-loop-segment l = All (λ (p : Index DataSpace × Option (Index RuntimeDataSpace)). length (passive_lines p.0 p.1) ≤ 128) l.segment-iterator → All (λ (p : Index DataSpace × Option (Index RuntimeDataSpace)). length (passive_lines p.0 p.1) ≤ 128) (keyed index_of l.data.items)
