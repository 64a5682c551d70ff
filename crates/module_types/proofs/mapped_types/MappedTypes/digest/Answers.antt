use Rattle.std.proofs.lemmas.Grind.{common_steps}
use Rattle.std.proofs.Common.{arith}
use Rattle.module_types.specs.MappedTypes.{digest_of}
use Rattle.module_types.proofs.Keys.{same-feed}
use Rattle.module_types.proofs.mapped_types.MappedTypes.digest.Goals as goal

pub returns : goal.returns
unfolding digest_of
returns c = grind (arith, common_steps, same-feed)
