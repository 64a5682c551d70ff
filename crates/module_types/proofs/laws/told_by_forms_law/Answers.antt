use Rattle.module_types.proofs.ToldByForms.{told-by-forms}
use Rattle.module_types.proofs.laws.told_by_forms_law.Goals as goal

pub returns : goal.returns
returns c = λ b b' w w' engine engine' olds forms olds' forms' are are' one. told-by-forms b b' w w' engine engine' olds forms olds' forms' are are' one
