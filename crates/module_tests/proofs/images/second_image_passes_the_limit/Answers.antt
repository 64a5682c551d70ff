use Rattle.std.proofs.Common.{refl}
use Rattle.module_tests.proofs.images.second_image_passes_the_limit.Goals as goal

pub too_large_at-requires-clause-page_size : goal.too_large_at-requires-clause-page_size
too_large_at-requires-clause-page_size g c = (12, refl)

pub too_large_at-requires-2-clause-page_size : goal.too_large_at-requires-2-clause-page_size
too_large_at-requires-2-clause-page_size g c = (12, refl)
