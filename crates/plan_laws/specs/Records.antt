-- Two records that tell a plan alike.
use Rattle.std.specs.Prelude.{◌≡◌, map}
use Rattle.plan_text.specs.declared.plan.Plan.{Plan}
use Rattle.plan_tables.specs.declared.record.PlanRecord.{PlanRecord}
use Rattle.plan_tables.specs.Plan.{Tells}

-- a record with the runtime data of another
abbrev pub with_runtime : PlanRecord → PlanRecord → PlanRecord
with_runtime r s = record r { memories = record r.memories { runtime = s.memories.runtime } }

-- The one tells the plan that the other tells, table by table. Left out is which runtime data the
-- plan made, and which are bytes of the module.
pub record TellAlike (plan : Plan) (one other : PlanRecord) : Type 0 where
  pub runtime : map (λ row. row.bytes.now) one.memories.runtime.now
      ≡ map (λ row. row.bytes.now) other.memories.runtime.now
  pub rest : Tells plan (with_runtime one other)
