use Rattle.std.proofs.Common.{◌∷◌, [], false, refl, lit<}
use Rattle.form_reader.specs.Reading.{whole, raw_bytes_at}
use Rattle.form_reader.specs.ReadingNumbers.{unsigned_at, found_at, counted_bytes_at, name_at}
use Rattle.custom_sections.specs.NameReading.{elements_before, vector_before, naming_at, subsection, sized_subsection_at, subsections_before, names_of_section}
use Rattle.custom_sections.proofs.WorkedNames.{one_char}
use Rattle.module_customs.proofs.AsTold.{names_as_told}
use Rattle.module_customs.proofs.worked.worked_names.Goals as goal

pub returns-clause-before_the_function : goal.returns-clause-before_the_function
unfolding whole raw_bytes_at unsigned_at found_at counted_bytes_at name_at elements_before vector_before naming_at subsection sized_subsection_at subsections_before names_of_section
returns-clause-before_the_function c = rw (names_as_told false (0x01 ∷ 0x04 ∷ 0x01 ∷ 0x00 ∷ 0x01 ∷ 0x66 ∷ []), one_char 102 (lit< tt)) refl

pub returns-clause-behind_it : goal.returns-clause-behind_it
unfolding whole raw_bytes_at unsigned_at found_at counted_bytes_at name_at elements_before vector_before naming_at subsection sized_subsection_at subsections_before names_of_section
returns-clause-behind_it c = rw (names_as_told false (0x01 ∷ 0x04 ∷ 0x01 ∷ 0x00 ∷ 0x01 ∷ 0x66 ∷ []), one_char 102 (lit< tt)) refl

pub returns-clause-later_name : goal.returns-clause-later_name
unfolding whole raw_bytes_at unsigned_at found_at counted_bytes_at name_at elements_before vector_before naming_at subsection sized_subsection_at subsections_before names_of_section
returns-clause-later_name c = rw (
  names_as_told false (0x01 ∷ 0x04 ∷ 0x01 ∷ 0x00 ∷ 0x01 ∷ 0x66 ∷ []),
  names_as_told false (0x01 ∷ 0x04 ∷ 0x01 ∷ 0x00 ∷ 0x01 ∷ 0x67 ∷ []),
  one_char 102 (lit< tt),
  one_char 103 (lit< tt),
) refl
