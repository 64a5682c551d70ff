use Rattle.std.proofs.Common.{refl}
use Rattle.std.specs.Fmt.{digits}
use Rattle.plan_lines.specs.Expressions.{hexadecimal, expression_text}
use Rattle.plan_lines.proofs.worked.worked_expressions.Goals as goal

pub returns-clause-minus_one : goal.returns-clause-minus_one
unfolding digits
returns-clause-minus_one c = refl

pub returns-clause-wide : goal.returns-clause-wide
unfolding digits
returns-clause-wide c = refl

pub returns-clause-leading_zeros : goal.returns-clause-leading_zeros
unfolding hexadecimal
returns-clause-leading_zeros c = refl

pub returns-clause-one_and_a_half : goal.returns-clause-one_and_a_half
unfolding hexadecimal
returns-clause-one_and_a_half c = refl

pub returns-clause-vector : goal.returns-clause-vector
unfolding hexadecimal
returns-clause-vector c = refl

pub returns-clause-null_of_module_type : goal.returns-clause-null_of_module_type
unfolding digits
returns-clause-null_of_module_type c = refl

pub returns-clause-fixed_array : goal.returns-clause-fixed_array
unfolding digits
returns-clause-fixed_array c = refl

pub returns-clause-two : goal.returns-clause-two
unfolding digits expression_text
returns-clause-two c = refl
