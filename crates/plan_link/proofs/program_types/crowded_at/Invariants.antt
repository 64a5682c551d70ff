use Rattle.std.proofs.Common.{◌≡◌, ◌+◌, take}
use Rattle.plan_link.specs.Program.{count_types, capacity}
use Rattle.plan_link.proofs.program_types.crowded_at.Given as goal

abbrev pub invariant-loop-place : goal.invariant-loop-place
invariant-loop-place l = l.left + count_types (take l.place l.modules) ≡ capacity
