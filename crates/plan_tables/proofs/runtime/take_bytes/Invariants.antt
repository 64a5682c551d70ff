use Rattle.std.proofs.Common.{◌≡◌, ◌++◌, length, map, take, drop}
use Rattle.plan_tables.specs.Memories.{runtime_told, runtime_row}
use Rattle.plan_tables.proofs.runtime.take_bytes.Given as goal

-- the rows so far and what remains have the bytes
abbrev pub invariant-loop-place : goal.invariant-loop-place
invariant-loop-place l = record {
  same_length : length l.rows ≡ length l.planned;
  taken : map runtime_told (take l.place l.rows) ++ map runtime_row (drop l.place l.planned) ≡ map runtime_row l.fn.planned;
}
