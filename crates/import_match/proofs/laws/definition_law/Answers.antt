use Rattle.import_match.proofs.Finding.{found-once}
use Rattle.import_match.proofs.laws.definition_law.Goals as goal

pub returns : goal.returns
returns c = found-once
