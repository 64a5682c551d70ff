use Rattle.std.proofs.Common.{◌≡◌, ◌++◌, map, take}
use Rattle.plan_tables.specs.Bodies.{locals_row}
use Rattle.plan_tables.proofs.bodies.push_locals.Given as goal

abbrev pub invariant-loop-run : goal.invariant-loop-run
invariant-loop-run l = l.rows.items ≡ l.initial.rows.items ++ map locals_row (take l.run-index l.locals)
