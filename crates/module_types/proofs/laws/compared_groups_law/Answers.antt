use Rattle.module_types.proofs.ToldByForms.{compared, all-before}
use Rattle.module_types.proofs.laws.compared_groups_law.Goals as goal

pub returns : goal.returns
returns c = λ b b' w w' engine engine' told k l x x' y y' is is'.
    compared b b' w w' engine engine' k l is.within is'.within (all-before b b' w w' engine engine' told k l is.within is'.within) x x' y y' is is'
