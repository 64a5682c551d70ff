use Rattle.std.proofs.Common.{arith}
use Rattle.std.proofs.lemmas.List.{map-append, take_all}
use Rattle.type_registry.proofs.Copies.{take-next}
use Rattle.type_registry.proofs.FreeIndices.{free-next, free-length}
use Rattle.type_registry.proofs.planning.new_indices.Goals as goal

pub loop-place-preserved : goal.loop-place-preserved
loop-place-preserved c = grind (arith, take-next, free-next, map-append)

pub returns : goal.returns
returns c = grind (arith, free-length, take_all)
