use Rattle.std.proofs.Common.{◌≡◌, ◌+◌, take}
use Rattle.std.specs.Prelude.{sum_by}
use Rattle.plan_run.specs.Limits.{most_cells}
use Rattle.plan_run.proofs.limits.have_too_many_cells.Given as goal

abbrev pub invariant-loop-table : goal.invariant-loop-table
invariant-loop-table l = l.left + sum_by (λ table. table.limits.min) (take l.table-index l.tables) ≡ most_cells
