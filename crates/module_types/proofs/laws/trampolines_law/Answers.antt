use Rattle.module_types.proofs.Keys.{mapped-twice, same-mapped, mapped-same}
use Rattle.module_types.proofs.laws.trampolines_law.Goals as goal

pub returns : goal.returns
returns c = record {
  once = mapped-twice;
  told = λ f g. (same-mapped f g, mapped-same f g);
}
