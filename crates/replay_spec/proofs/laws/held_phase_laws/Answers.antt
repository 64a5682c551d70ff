use Rattle.replay_spec.proofs.HeldPhases.{values_after-held, segments_phase-held, elements_phase-held}
use Rattle.replay_spec.proofs.laws.held_phase_laws.Goals as goal

pub returns-clause-globals : goal.returns-clause-globals
returns-clause-globals c = values_after-held

pub returns-clause-data : goal.returns-clause-data
returns-clause-data c = segments_phase-held

pub returns-clause-elements : goal.returns-clause-elements
returns-clause-elements c = elements_phase-held
