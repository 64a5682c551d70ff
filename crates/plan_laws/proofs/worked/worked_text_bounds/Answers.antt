use Rattle.rule_spec.specs.WorkedKept.{overlap_bytes}
use Rattle.plan_laws.proofs.worked.worked_text_bounds.Goals as goal

pub returns-clause-lines : goal.returns-clause-lines
returns-clause-lines c = λ o planned. (c.text_bound_law.ensures o overlap_bytes planned).lines

pub returns-clause-text : goal.returns-clause-text
returns-clause-text c = λ o planned. (c.text_bound_law.ensures o overlap_bytes planned).text
