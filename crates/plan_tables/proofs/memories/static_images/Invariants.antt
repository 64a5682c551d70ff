use Rattle.std.proofs.Common.{◌≡◌, ◌++◌}
use Rattle.std.specs.List.{flat_map}
use Rattle.entity_map.specs.Keyed.{keyed}
use Rattle.wasm_index.specs.Index.{index_of}
use Rattle.plan_tables.specs.Memories.{image_row}
use Rattle.plan_tables.proofs.memories.static_images.Given as goal

abbrev pub invariant-loop-memory : goal.invariant-loop-memory
invariant-loop-memory l = l.rows.items ++ flat_map (λ p. image_row p.0 p.1) l.memory-iterator ≡ flat_map (λ p. image_row p.0 p.1) (keyed index_of l.planned)
