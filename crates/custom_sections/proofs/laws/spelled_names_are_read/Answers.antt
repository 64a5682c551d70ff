use Rattle.custom_sections.proofs.NameSpellings.{names_again, section_again}
use Rattle.custom_sections.proofs.laws.spelled_names_are_read.Goals as goal

pub returns-clause-vector : goal.returns-clause-vector
returns-clause-vector c = λ front rest names s. names_again front names rest s

pub returns-clause-section : goal.returns-clause-section
returns-clause-section c = section_again
