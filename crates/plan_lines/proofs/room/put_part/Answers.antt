use Rattle.std.proofs.Common.{arith}
use Rattle.plan_lines.proofs.PartWritten.{part_written}
use Rattle.plan_lines.proofs.room.put_part.Goals as goal

pub returns-clause-written : goal.returns-clause-written
returns-clause-written c =
    part_written _ _ _ c.args.used c.put.result c.args.len (omega arith) (omega arith) (omega arith) c.put.ensures.written
