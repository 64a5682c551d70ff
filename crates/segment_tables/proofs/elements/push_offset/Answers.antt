use Rattle.std.proofs.Common.{arith}
use Rattle.std.proofs.lemmas.Grind.{common_steps}
use Rattle.segment_tables.proofs.Rows.{expressions_length}
use Rattle.segment_tables.proofs.elements.push_offset.Goals as goal

pub returns-in_ok-push_expression-in-Active-clause-number : goal.returns-in_ok-push_expression-in-Active-clause-number
returns-in_ok-push_expression-in-Active-clause-number c = λ es has. rw c.in-Active.is (grind (arith, common_steps, expressions_length es c.args.rows.now has))
