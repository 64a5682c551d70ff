use Rattle.gc_layout.proofs.FieldLaws.{offset_is_least, size_is_least, elements_are_least}
use Rattle.gc_layout.proofs.laws.offsets_are_least_multiples.Goals as goal

pub returns-clause-offset : goal.returns-clause-offset
returns-clause-offset c = offset_is_least

pub returns-clause-size : goal.returns-clause-size
returns-clause-size c = size_is_least

pub returns-clause-elements : goal.returns-clause-elements
returns-clause-elements c = elements_are_least
