use Rattle.std.proofs.Common.{◌∷◌, [], refl}
use Rattle.form_reader.specs.Reading.{whole, elements_at}
use Rattle.form_reader.specs.ReadingNumbers.{unsigned_at, found_at, vector_at}
use Rattle.custom_sections.specs.HintReading.{hint_at, hint_entry_at}
use Rattle.module_customs.proofs.AsTold.{hints_as_told}
use Rattle.module_customs.proofs.worked.worked_hints.Goals as goal

pub returns-clause-last_counts : goal.returns-clause-last_counts
unfolding whole unsigned_at found_at vector_at elements_at hint_at hint_entry_at
returns-clause-last_counts c = rw (
  hints_as_told (0x01 ∷ 0x00 ∷ 0x01 ∷ 0x05 ∷ 0x01 ∷ 0x01 ∷ []),
  hints_as_told (0x01 ∷ 0x00 ∷ 0x00 ∷ []),
) refl

pub returns-clause-cut_is_dropped : goal.returns-clause-cut_is_dropped
unfolding whole unsigned_at found_at vector_at elements_at hint_at hint_entry_at
returns-clause-cut_is_dropped c = rw (
  hints_as_told (0x01 ∷ 0x00 ∷ 0x01 ∷ 0x05 ∷ 0x01 ∷ 0x01 ∷ []),
  hints_as_told (0x01 ∷ 0x00 ∷ 0x01 ∷ []),
) refl
