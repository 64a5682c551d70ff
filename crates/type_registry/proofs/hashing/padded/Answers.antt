use Rattle.std.proofs.Common.{arith, refl}
use Rattle.std.proofs.lemmas.List.{take_all}
use Rattle.type_registry.proofs.Filled.{filled-one}
use Rattle.type_registry.proofs.hashing.padded.Goals as goal

pub loop-place-init : goal.loop-place-init
loop-place-init c = refl

pub loop-place-preserved : goal.loop-place-preserved
loop-place-preserved c = filled-one c.args.bytes.now c.loop-place.word c.loop-place.place 8 c.loop-place-test.true c.requires c.loop-place.invariant

pub returns : goal.returns
returns c = grind (arith, take_all)
