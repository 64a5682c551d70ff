use Rattle.custom_sections.proofs.ToldNames.{told_are_read}
use Rattle.custom_sections.proofs.laws.told_names_are_read.Goals as goal

pub returns : goal.returns
returns c = told_are_read
