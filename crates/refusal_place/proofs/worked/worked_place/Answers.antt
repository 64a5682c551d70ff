use Rattle.refusal_place.proofs.WorkedPlaces.{header_is, header_is_not, second_is, first_is_not, first_is_spelled, decided_is, not_decided, cut_is, cut_is_not_later, cut_is_not_shorter}
use Rattle.refusal_place.proofs.worked.worked_place.Goals as goal

pub returns-clause-header : goal.returns-clause-header
returns-clause-header c = header_is

pub returns-clause-not_the_byte_before : goal.returns-clause-not_the_byte_before
returns-clause-not_the_byte_before c = header_is_not

pub returns-clause-second_memory : goal.returns-clause-second_memory
returns-clause-second_memory c = second_is

pub returns-clause-not_the_first_memory : goal.returns-clause-not_the_first_memory
returns-clause-not_the_first_memory c = first_is_not

pub returns-clause-first_is_spelled : goal.returns-clause-first_is_spelled
returns-clause-first_is_spelled c = first_is_spelled

pub returns-clause-decided : goal.returns-clause-decided
returns-clause-decided c = decided_is

pub returns-clause-not_decided : goal.returns-clause-not_decided
returns-clause-not_decided c = not_decided

pub returns-clause-cut : goal.returns-clause-cut
returns-clause-cut c = cut_is

pub returns-clause-not_a_byte_later : goal.returns-clause-not_a_byte_later
returns-clause-not_a_byte_later c = cut_is_not_later

pub returns-clause-not_another_end : goal.returns-clause-not_another_end
returns-clause-not_another_end c = cut_is_not_shorter
