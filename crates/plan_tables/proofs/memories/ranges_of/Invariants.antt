use Rattle.std.proofs.Common.{◌≡◌, map, take}
use Rattle.plan_tables.specs.Memories.{data_range}
use Rattle.plan_tables.proofs.memories.ranges_of.Given as goal

abbrev pub invariant-loop-range : goal.invariant-loop-range
invariant-loop-range l = l.rows.items ≡ map data_range (take l.range-index l.ranges)
