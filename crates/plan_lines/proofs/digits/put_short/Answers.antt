use Rattle.std.proofs.Common.{arith, append_assoc}
use Rattle.plan_lines.proofs.Decimal.{decimal_pair}
use Rattle.plan_lines.proofs.digits.put_short.Goals as goal

pub returns : goal.returns
returns c = (
  rw (decimal_pair c.args.number (omega arith) (omega arith), ← append_assoc, ← c.put_below_hundred-hundreds.ensures.0) c.put_pair.ensures.written,
  omega arith,
  omega arith,
)
