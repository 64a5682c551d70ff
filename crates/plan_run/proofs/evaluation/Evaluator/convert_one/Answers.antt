use Rattle.std.proofs.Common.{sym, subst}
use Rattle.plan_run.specs.Values.{AreOrdered}
use Rattle.plan_run.proofs.evaluation.Evaluator.convert_one.Goals as goal

pub known_conversion-requires-clause-ordered : goal.known_conversion-requires-clause-ordered
known_conversion-requires-clause-ordered c = subst AreOrdered (sym c.deref.ensures.value) c.requires.sound.ordered
