use Rattle.std.proofs.Common.{refl}
use Rattle.module_tests.proofs.objects.shared_layouts_tell_size_and_alignment.Goals as goal

pub layout-requires : goal.layout-requires
layout-requires g c = (4, refl)
