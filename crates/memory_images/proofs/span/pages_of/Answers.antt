use Rattle.std.proofs.Common.{refl}
use Rattle.memory_images.proofs.Ends.{page_order, pages}
use Rattle.memory_images.proofs.span.pages_of.Goals as goal

pub overflow_sub-last-2 : goal.overflow_sub-last-2
overflow_sub-last-2 c = page_order c.args.ends.first c.args.ends.last c.args.page c.requires.page c.requires.order

pub returns : goal.returns
returns c = pages c.args.ends c.args.page _ c.requires.page c.requires.order refl c.saturating_add.ensures
