use Rattle.std.proofs.Common.{arith}
use Rattle.std.proofs.lemmas.Fmt.{decimal_digit}
use Rattle.plan_lines.proofs.Decimal.{decimal_two}
use Rattle.plan_lines.proofs.digits.put_below_hundred.Goals as goal

pub returns-then-number-lt10 : goal.returns-then-number-lt10
returns-then-number-lt10 c = (rw (decimal_digit c.args.number (omega arith)) c.put_byte.ensures.written, omega arith, omega arith)

pub returns : goal.returns
returns c = (rw (decimal_two c.args.number (omega arith) (omega arith)) c.put_pair.ensures.written, omega arith, omega arith)
