use Rattle.std.proofs.Common.{◌≡◌, ◌++◌, map, take}
use Rattle.plan_tables.specs.Debug.{metadata_run}
use Rattle.plan_tables.proofs.debug.push_runs.Given as goal

abbrev pub invariant-loop-run : goal.invariant-loop-run
invariant-loop-run l = l.rows.items ≡ l.initial.rows.items ++ map metadata_run (take l.run-index l.runs)
