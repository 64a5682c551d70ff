use Rattle.std.proofs.Common.{take}
use Rattle.std.specs.List.{AllZip}
use Rattle.translate.specs.Options.{options_of}
use Rattle.planner_c.specs.Members.{HasThisPlan}
use Rattle.planner_c.proofs.program_plans.plans_of.Given as goal

abbrev pub invariant-loop-place : goal.invariant-loop-place
invariant-loop-place l = AllZip (HasThisPlan (options_of l.command)) (take l.place l.modules) l.plans.items
