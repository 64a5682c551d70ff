use Rattle.rule_spec.proofs.WorkedKept.{types-kept, functions-kept, bodies-kept, limits-kept, tables-kept, expressions-kept, exports-kept, start-kept, segments-kept, references-kept}
use Rattle.rule_spec.proofs.worked.worked_kept_rules.Goals as goal

pub returns-clause-types : goal.returns-clause-types
returns-clause-types c = types-kept

pub returns-clause-functions : goal.returns-clause-functions
returns-clause-functions c = functions-kept

pub returns-clause-bodies : goal.returns-clause-bodies
returns-clause-bodies c = bodies-kept

pub returns-clause-limits : goal.returns-clause-limits
returns-clause-limits c = limits-kept

pub returns-clause-tables : goal.returns-clause-tables
returns-clause-tables c = tables-kept

pub returns-clause-expressions : goal.returns-clause-expressions
returns-clause-expressions c = expressions-kept

pub returns-clause-exports : goal.returns-clause-exports
returns-clause-exports c = exports-kept

pub returns-clause-start : goal.returns-clause-start
returns-clause-start c = start-kept

pub returns-clause-segments : goal.returns-clause-segments
returns-clause-segments c = segments-kept

pub returns-clause-references : goal.returns-clause-references
returns-clause-references c = references-kept
