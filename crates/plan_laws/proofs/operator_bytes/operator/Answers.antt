use Rattle.std.proofs.Common.{subst}
use Rattle.plan_laws.specs.Widths.{HasWidth}
use Rattle.plan_laws.proofs.OperatorTexts.{operator-short}
use Rattle.plan_laws.proofs.operator_bytes.operator.Goals as goal

pub returns : goal.returns
returns c = operator-short c.args.operator.now (subst HasWidth c.operands.ensures c.operands-2.ensures)
