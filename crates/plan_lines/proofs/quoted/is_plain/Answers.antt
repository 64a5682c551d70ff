use Rattle.std.proofs.Common.{refl, arith}
use Rattle.plan_lines.specs.declared.quoted.TheConstants.{PLAIN}
use Rattle.plan_lines.specs.Quoted.{is_plain}
use Rattle.plan_lines.proofs.PlainTable.{agree_below, from_table}
use Rattle.plan_lines.proofs.quoted.is_plain.Goals as goal

pub returns : goal.returns
unfolding agree_below
returns c = from_table PLAIN is_plain c.args.byte (omega arith) refl
