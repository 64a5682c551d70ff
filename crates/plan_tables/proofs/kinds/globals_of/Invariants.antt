use Rattle.std.proofs.Common.{◌≡◌, map, take}
use Rattle.plan_tables.specs.Kinds.{global_row}
use Rattle.plan_tables.proofs.kinds.globals_of.Given as goal

abbrev pub invariant-loop-global : goal.invariant-loop-global
invariant-loop-global l = l.rows.items ≡ map global_row (take l.global-index l.globals)
