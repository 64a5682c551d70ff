use Rattle.std.proofs.Common.{[], refl}
use Rattle.std.specs.List.{IsDistinct}
use Rattle.std.specs.Prelude.{None}
use Rattle.command_words.proofs.worked.worked_plan.Goals as goal

pub returns : goal.returns
unfolding IsDistinct
returns c = record {
  generate = None;
  options = [];
  head = refl;
  made = tt;
  chooses = record { settings = []; spelled = refl; allowed = tt; once = tt; chosen = refl };
}
