-- The rows so far are placed, and the others follow.
use Rattle.std.proofs.Common.{◌≡◌, ◌≤◌, ◌++◌, take, drop, map, length}
use Rattle.vm_offsets.specs.Context.{placed_from, end_from}
use Rattle.vm_offsets.specs.Entries.{rows_of, kept_extent, placed_extent}
use Rattle.vm_offsets.proofs.table.place.Given as goal

abbrev pub invariant-loop-place : goal.invariant-loop-place
invariant-loop-place l = record {
  room : length l.entries ≡ 14;
  small : l.end ≤ 4294967295;
  rest : end_from l.end (rows_of (drop l.place l.rows)) ≡ end_from l.fn.begin (rows_of l.rows);
  placed : map kept_extent (take l.place l.entries) ++ map placed_extent (placed_from l.end (rows_of (drop l.place l.rows)))
      ≡ map placed_extent (placed_from l.fn.begin (rows_of l.rows));
}
