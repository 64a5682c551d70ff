use Rattle.plan_laws.proofs.ListTexts.{element-lines-short}
use Rattle.plan_laws.proofs.table_bytes.element_segments.Goals as goal

pub returns : goal.returns
returns c = element-lines-short c.args.segments.now c.each_segment.ensures
