use Rattle.plan_laws.proofs.ListTexts.{group-line-short}
use Rattle.std.proofs.Common.{arith}
use Rattle.plan_laws.proofs.type_list_bytes.group.Goals as goal

pub returns : goal.returns
returns c = group-line-short c.args.index c.args.range.now (omega arith) (omega arith) (omega arith)
