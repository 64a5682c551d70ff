use Rattle.std.proofs.Common.{rules}
use Rattle.translate.proofs.answering.answer.Goals as goal

pub returns-in-Err-clause-cut_short : goal.returns-in-Err-clause-cut_short
returns-in-Err-clause-cut_short g c = search rules
