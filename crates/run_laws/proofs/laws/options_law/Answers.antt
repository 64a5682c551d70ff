use Rattle.run_laws.proofs.OptionsAlike.{begin-alike}
use Rattle.run_laws.proofs.laws.options_law.Goals as goal

pub returns : goal.returns
returns c = begin-alike
