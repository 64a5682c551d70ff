use Rattle.std.proofs.Common.{refl}
use Rattle.link_tests.proofs.excesses.excess_of.Goals as goal

pub locate_excess-requires-clause-page_size : goal.locate_excess-requires-clause-page_size
locate_excess-requires-clause-page_size c = (12, refl)
