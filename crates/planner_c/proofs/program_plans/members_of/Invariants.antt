use Rattle.std.proofs.Common.{◌≡◌, take, map}
use Rattle.std.specs.List.{AllZip}
use Rattle.planner_c.specs.Members.{IsNamedAs}
use Rattle.planner_c.proofs.program_plans.members_of.Given as goal

abbrev pub invariant-loop-place : goal.invariant-loop-place
invariant-loop-place l = record {
  named : AllZip IsNamedAs (take l.place l.modules) l.members.items;
  plans : map (λ m. m.plan.now) l.members.items ≡ take l.place l.plans;
}
