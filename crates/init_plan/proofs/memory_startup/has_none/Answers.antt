use Rattle.init_plan.proofs.MemoriesKept.{nones}
use Rattle.init_plan.proofs.memory_startup.has_none.Goals as goal

pub returns-in-Static : goal.returns-in-Static
returns-in-Static c = rw c.in-Static.is (nones c.in-Static.map c.are_none.result (rw (← c.as_slice.ensures) c.are_none.ensures))
