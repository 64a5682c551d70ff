use Rattle.std.proofs.Common.{◌≡◌, map, take}
use Rattle.plan_tables.specs.Kinds.{memory_row}
use Rattle.plan_tables.proofs.kinds.memories_of.Given as goal

abbrev pub invariant-loop-memory : goal.invariant-loop-memory
invariant-loop-memory l = l.rows.items ≡ map memory_row (take l.memory-index l.memories)
