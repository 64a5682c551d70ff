use Rattle.std.proofs.Common.{arith, slice_get}
use Rattle.std.proofs.lemmas.Option.{slice_get-get_or, slice_get-map}
use Rattle.type_registry.proofs.kept.Kept.first.Goals as goal

pub returns : goal.returns
returns c = grind (arith, slice_get-get_or, slice_get, slice_get-map)
