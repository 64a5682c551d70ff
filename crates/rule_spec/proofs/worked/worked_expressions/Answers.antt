use Rattle.std.proofs.Common.{[]}
use Rattle.rule_spec.proofs.WorkedKept.{sum-typed}
use Rattle.rule_spec.specs.Worked.{three_types}
use Rattle.rule_spec.proofs.worked.worked_expressions.Goals as goal

pub returns-clause-sum : goal.returns-clause-sum
returns-clause-sum c = sum-typed three_types []
