use Rattle.gc_layout.proofs.FieldLaws.{agree_on_prefix}
use Rattle.gc_layout.proofs.laws.prefixes_agree.Goals as goal

pub returns : goal.returns
returns c header fields others _ n same = agree_on_prefix header fields others n same
