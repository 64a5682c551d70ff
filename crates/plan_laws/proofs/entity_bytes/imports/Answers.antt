use Rattle.plan_laws.proofs.ListTexts.{import-lines-short}
use Rattle.std.proofs.Common.{arith}
use Rattle.plan_laws.proofs.entity_bytes.imports.Goals as goal

pub returns : goal.returns
returns c = import-lines-short c.args.pool.now 0 c.args.imports.now (omega arith) c.each_import.ensures
