use Rattle.std.proofs.Common.{refl, lit<}
use Rattle.form_reader.specs.Reading.{whole, raw_bytes_at}
use Rattle.form_reader.specs.ReadingNumbers.{unsigned_at, found_at, counted_bytes_at, name_at}
use Rattle.custom_sections.specs.NameReading.{elements_before, vector_before, naming_at, subsection, sized_subsection_at, subsections_before, names_of_section}
use Rattle.custom_sections.proofs.WorkedNames.{one_char}
use Rattle.custom_sections.proofs.worked.worked_names.Goals as goal

pub returns-clause-module_before_a_fault : goal.returns-clause-module_before_a_fault
unfolding whole raw_bytes_at unsigned_at found_at counted_bytes_at name_at elements_before vector_before naming_at subsection sized_subsection_at subsections_before names_of_section
returns-clause-module_before_a_fault c = rw (one_char 109 (lit< tt)) refl

pub returns-clause-byte_behind_the_name_of_the_module : goal.returns-clause-byte_behind_the_name_of_the_module
unfolding whole raw_bytes_at unsigned_at found_at counted_bytes_at name_at elements_before vector_before naming_at subsection sized_subsection_at subsections_before names_of_section
returns-clause-byte_behind_the_name_of_the_module c = rw (one_char 109 (lit< tt)) refl

pub returns-clause-fault_within_a_vector : goal.returns-clause-fault_within_a_vector
unfolding whole raw_bytes_at unsigned_at found_at counted_bytes_at name_at elements_before vector_before naming_at subsection sized_subsection_at subsections_before names_of_section
returns-clause-fault_within_a_vector c = rw (one_char 97 (lit< tt)) refl

pub returns-clause-higher_ids_are_skipped : goal.returns-clause-higher_ids_are_skipped
unfolding whole raw_bytes_at unsigned_at found_at counted_bytes_at name_at elements_before vector_before naming_at subsection sized_subsection_at subsections_before names_of_section
returns-clause-higher_ids_are_skipped c = rw (one_char 109 (lit< tt)) refl

pub returns-clause-locals_are_skipped : goal.returns-clause-locals_are_skipped
unfolding whole raw_bytes_at unsigned_at found_at counted_bytes_at name_at elements_before vector_before naming_at subsection sized_subsection_at subsections_before names_of_section
returns-clause-locals_are_skipped c = rw (one_char 109 (lit< tt)) refl

pub returns-clause-locals_are_read : goal.returns-clause-locals_are_read
unfolding whole raw_bytes_at unsigned_at found_at counted_bytes_at name_at elements_before vector_before naming_at subsection sized_subsection_at subsections_before names_of_section
returns-clause-locals_are_read c = rw (one_char 120 (lit< tt)) refl

pub returns-clause-fault_within_locals : goal.returns-clause-fault_within_locals
unfolding whole raw_bytes_at unsigned_at found_at counted_bytes_at name_at elements_before vector_before naming_at subsection sized_subsection_at subsections_before names_of_section
returns-clause-fault_within_locals c = refl
