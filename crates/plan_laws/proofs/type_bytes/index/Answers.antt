use Rattle.std.proofs.Common.{arith}
use Rattle.plan_laws.proofs.TypeTexts.{index-short}
use Rattle.plan_laws.proofs.type_bytes.index.Goals as goal

pub returns-clause-text : goal.returns-clause-text
returns-clause-text c = index-short c.args.index (omega arith)
