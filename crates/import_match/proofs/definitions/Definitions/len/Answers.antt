use Rattle.std.proofs.Common.{◌∙◌, ap, sym, length}
use Rattle.import_match.proofs.Keeping.{length-in_order}
use Rattle.import_match.proofs.definitions.Definitions.len.Goals as goal

pub returns-clause-count : goal.returns-clause-count
returns-clause-count c = c.len.ensures.len ∙ sym (length-in_order c.self.inside.numbered.entries) ∙ ap length c.self.view_is
