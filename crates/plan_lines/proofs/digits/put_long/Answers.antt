use Rattle.std.proofs.Common.{arith, append_assoc}
use Rattle.plan_lines.proofs.Decimal.{decimal_four}
use Rattle.plan_lines.proofs.digits.put_long.Goals as goal

pub returns : goal.returns
returns c = (
  rw (
    decimal_four c.args.number (omega arith) (omega arith),
    ← append_assoc,
    ← append_assoc,
    ← c.put_short-first.ensures.0,
    ← c.put_pair-middle.ensures.written,
  ) c.put_pair.ensures.written,
  omega arith,
  omega arith,
)
