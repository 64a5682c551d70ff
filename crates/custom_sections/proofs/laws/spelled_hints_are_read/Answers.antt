use Rattle.custom_sections.proofs.HintLaws.{section_read, section_spelled}
use Rattle.custom_sections.proofs.laws.spelled_hints_are_read.Goals as goal

pub returns : goal.returns
returns c = λ bytes entries. (section_read bytes entries, section_spelled bytes entries)
