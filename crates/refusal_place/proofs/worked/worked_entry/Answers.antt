use Rattle.refusal_place.proofs.WorkedEntries.{entry_begins, no_third_entry}
use Rattle.refusal_place.proofs.worked.worked_entry.Goals as goal

pub returns-clause-second : goal.returns-clause-second
returns-clause-second c = entry_begins

pub returns-clause-no_third : goal.returns-clause-no_third
returns-clause-no_third c = no_third_entry
