use Rattle.plan_laws.proofs.ListTexts.{alignment-short}
use Rattle.plan_laws.proofs.memory_bytes.alignment.Goals as goal

pub returns : goal.returns
returns c = alignment-short c.args.align c.wide.ensures
