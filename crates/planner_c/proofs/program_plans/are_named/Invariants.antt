use Rattle.std.proofs.Common.{All, take}
use Rattle.planner_c.specs.Programs.{HasName}
use Rattle.planner_c.proofs.program_plans.are_named.Given as goal

abbrev pub invariant-loop-module : goal.invariant-loop-module
invariant-loop-module l = All HasName (take l.module-index l.modules)
