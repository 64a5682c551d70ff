use Rattle.std.proofs.Common.{◌≡◌, ◌++◌, map, take}
use Rattle.plan_tables.specs.Functions.{branch_hint_row}
use Rattle.plan_tables.proofs.functions.push_branch_hints.Given as goal

abbrev pub invariant-loop-hint : goal.invariant-loop-hint
invariant-loop-hint l = l.rows.items ≡ l.initial.rows.items ++ map (branch_hint_row l.function) (take l.hint-index l.hints)
