use Rattle.std.proofs.Common.{refl}
use Rattle.std.specs.Fmt.{digits}
use Rattle.plan_lines.specs.Expressions.{hexadecimal}
use Rattle.plan_lines.specs.NameLines.{function_name_line}
use Rattle.plan_lines.proofs.worked.worked_names.Goals as goal

pub returns-clause-escaped : goal.returns-clause-escaped
unfolding hexadecimal
returns-clause-escaped c = refl

pub returns-clause-exported : goal.returns-clause-exported
unfolding digits
returns-clause-exported c = refl

pub returns-clause-function : goal.returns-clause-function
unfolding digits function_name_line
returns-clause-function c = refl
