use Rattle.std.proofs.Common.{refl}
use Rattle.plan_lines.proofs.Decimal.{pair_in}
use Rattle.plan_lines.specs.declared.digits.TheConstants.{PAIRS}
use Rattle.plan_lines.proofs.digits.put_pair.Goals as goal

-- the digits are in the table
pub returns-clause-written : goal.returns-clause-written
returns-clause-written c =
    let digits = pair_in PAIRS 100 c.args.pair refl c.requires.0 in
    rw (c.put.ensures.written, digits.0, digits.1) refl
