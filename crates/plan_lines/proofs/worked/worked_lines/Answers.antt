use Rattle.std.proofs.Common.{refl}
use Rattle.std.specs.Fmt.{digits}
use Rattle.plan_lines.specs.GlobalLines.{global_line}
use Rattle.plan_lines.specs.Numbers.{numbers_line, named_number}
use Rattle.plan_lines.specs.TableLines.{table_image_line}
use Rattle.plan_lines.proofs.worked.worked_lines.Goals as goal

pub returns-clause-one_imported : goal.returns-clause-one_imported
unfolding digits numbers_line
returns-clause-one_imported c = refl

pub returns-clause-global : goal.returns-clause-global
unfolding digits global_line
returns-clause-global c = refl

pub returns-clause-null_cell : goal.returns-clause-null_cell
unfolding digits table_image_line named_number
returns-clause-null_cell c = refl

pub returns-clause-aligned : goal.returns-clause-aligned
unfolding digits numbers_line
returns-clause-aligned c = refl

pub returns-clause-image : goal.returns-clause-image
unfolding digits numbers_line
returns-clause-image c = refl

pub returns-clause-passive : goal.returns-clause-passive
unfolding digits numbers_line
returns-clause-passive c = refl

pub returns-clause-second_range : goal.returns-clause-second_range
unfolding digits numbers_line
returns-clause-second_range c = refl
