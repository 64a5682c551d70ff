use Rattle.replay_spec.proofs.Joined.{agrees, agrees-module, no-trap}
use Rattle.replay_spec.proofs.image_laws.memory_plan_laws.Goals as goal

pub returns-clause-agrees : goal.returns-clause-agrees
returns-clause-agrees c = λ options imports memories active passive plan page h. agrees options imports memories active passive plan page h

pub returns-clause-no_trap : goal.returns-clause-no_trap
returns-clause-no_trap c = no-trap

pub returns-clause-module : goal.returns-clause-module
returns-clause-module c = agrees-module
