use Rattle.planner_c.proofs.program_plans.push_plan.Goals as goal

pub returns-clause-planned : goal.returns-clause-planned
returns-clause-planned c = record { plan = c.in_ok-plan.plan; planned = c.in_ok-plan.ensures.planned; added = c.in-Ok.ensures.items }
