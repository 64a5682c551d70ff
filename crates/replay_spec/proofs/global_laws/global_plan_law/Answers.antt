use Rattle.replay_spec.proofs.GlobalsKnown.{globals-agree}
use Rattle.replay_spec.proofs.GlobalsTyped.{reads-earlier}
use Rattle.replay_spec.proofs.global_laws.global_plan_law.Goals as goal

pub returns-clause-agrees : goal.returns-clause-agrees
returns-clause-agrees c = globals-agree

pub returns-clause-typed : goal.returns-clause-typed
returns-clause-typed c = λ l. reads-earlier l l.imported_globals l.globals
