use Rattle.module_types.proofs.ToldByForms.{compared}
use Rattle.module_types.proofs.laws.compared_before_law.Goals as goal

pub returns : goal.returns
returns c = λ b b' w w' engine engine' k l told x x' y y' is is'. compared b b' w w' engine engine' k l is.within is'.within told x x' y y' is is'
