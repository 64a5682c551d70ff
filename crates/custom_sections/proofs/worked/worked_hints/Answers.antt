use Rattle.custom_sections.proofs.WorkedHints.{whole_is, cut_is, other_is, longer_is}
use Rattle.custom_sections.proofs.worked.worked_hints.Goals as goal

pub returns-clause-whole : goal.returns-clause-whole
returns-clause-whole c = whole_is

pub returns-clause-cut : goal.returns-clause-cut
returns-clause-cut c = cut_is

pub returns-clause-other_byte : goal.returns-clause-other_byte
returns-clause-other_byte c = other_is

pub returns-clause-longer : goal.returns-clause-longer
returns-clause-longer c = longer_is
