use Rattle.refusal_place.proofs.WorkedSections.{two_listed, not_one, second_starts, first_named, cut_listed, not_cut}
use Rattle.refusal_place.proofs.worked.worked_sections.Goals as goal

pub returns-clause-two : goal.returns-clause-two
returns-clause-two c = two_listed

pub returns-clause-not_one : goal.returns-clause-not_one
returns-clause-not_one c = not_one

pub returns-clause-not_late : goal.returns-clause-not_late
returns-clause-not_late c = second_starts

pub returns-clause-not_nameless : goal.returns-clause-not_nameless
returns-clause-not_nameless c = first_named

pub returns-clause-cut : goal.returns-clause-cut
returns-clause-cut c = cut_listed

pub returns-clause-not_cut : goal.returns-clause-not_cut
returns-clause-not_cut c = not_cut
