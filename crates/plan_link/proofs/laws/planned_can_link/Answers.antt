use Rattle.plan_link.proofs.Planned.{planned-linkable, planned-types, planned-exports}
use Rattle.plan_link.proofs.laws.planned_can_link.Goals as goal

pub returns : goal.returns
returns c = record {
  linkable = λ o bytes plan is. planned-linkable o bytes plan is c.listed_law.ensures.listed c.well_named_law.ensures;
  types = planned-types;
  exports = planned-exports;
}
