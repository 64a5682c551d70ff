use Rattle.std.proofs.Common.{◌≡◌, map, take}
use Rattle.plan_tables.specs.Functions.{passive_elements_row}
use Rattle.plan_tables.proofs.functions.passive_elements_of.Given as goal

abbrev pub invariant-loop-segment : goal.invariant-loop-segment
invariant-loop-segment l = l.rows.items ≡ map passive_elements_row (take l.segment-index l.elements)
