use Rattle.std.proofs.Common.{suc}
use Rattle.type_spec.specs.Decided.{down-decided}
use Rattle.type_spec.proofs.laws.decided_law.Goals as goal

pub returns : goal.returns
returns c = λ ms ns i j. down-decided (suc i) ms ns i j
