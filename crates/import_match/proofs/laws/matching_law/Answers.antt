use Rattle.import_match.proofs.Matched.{matching}
use Rattle.import_match.proofs.laws.matching_law.Goals as goal

pub returns : goal.returns
returns c = matching
