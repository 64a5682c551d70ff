use Rattle.plan_laws.proofs.ListTexts.{passive-data-short}
use Rattle.std.proofs.Common.{arith}
use Rattle.plan_laws.proofs.memory_bytes.passive.Goals as goal

pub returns : goal.returns
returns c = passive-data-short c.args.segment c.args.index (omega arith) c.datum.ensures
