-- Sections of hints, read.
use Rattle.std.proofs.Common.{ℕ, zero, suc, ◌<◌, List, [], ◌∷◌, take, true, refl, arith}
use Rattle.form_reader.specs.Reading.{elements_at, whole}
use Rattle.form_reader.specs.ReadingNumbers.{unsigned_at, found_at, vector_at}
use Rattle.custom_sections.specs.declared.hints.Hint.{Hint}
use Rattle.custom_sections.specs.HintGrammar.{hint_section}
use Rattle.custom_sections.specs.HintReading.{hint_at, hint_entry_at}
use Rattle.custom_sections.proofs.HintLaws.{section_spelled, not_spelled}

abbrev one_hint : List (ℕ × List Hint)
one_hint = (2, record { func_offset = 5; taken = true } ∷ []) ∷ []

pub whole_is : hint_section.spells (0x01 ∷ 0x02 ∷ 0x01 ∷ 0x05 ∷ 0x01 ∷ 0x01 ∷ []) one_hint
unfolding unsigned_at found_at vector_at elements_at whole hint_at hint_entry_at
whole_is = section_spelled (0x01 ∷ 0x02 ∷ 0x01 ∷ 0x05 ∷ 0x01 ∷ 0x01 ∷ []) one_hint refl

pub cut_is : (n : ℕ) (entries : List (ℕ × List Hint)) → n < 6
    → ¬ hint_section.spells (take n (0x01 ∷ 0x02 ∷ 0x01 ∷ 0x05 ∷ 0x01 ∷ 0x01 ∷ [])) entries
unfolding unsigned_at found_at vector_at elements_at whole hint_at hint_entry_at
cut_is zero entries lt = not_spelled [] entries refl
cut_is (suc zero) entries lt = not_spelled (0x01 ∷ []) entries refl
cut_is (suc (suc zero)) entries lt = not_spelled (0x01 ∷ 0x02 ∷ []) entries refl
cut_is (suc (suc (suc zero))) entries lt = not_spelled (0x01 ∷ 0x02 ∷ 0x01 ∷ []) entries refl
cut_is (suc (suc (suc (suc zero)))) entries lt = not_spelled (0x01 ∷ 0x02 ∷ 0x01 ∷ 0x05 ∷ []) entries refl
cut_is (suc (suc (suc (suc (suc zero))))) entries lt = not_spelled (0x01 ∷ 0x02 ∷ 0x01 ∷ 0x05 ∷ 0x01 ∷ []) entries refl
cut_is (suc (suc (suc (suc (suc (suc n)))))) entries lt = absurd (omega arith)

pub other_is : (entries : List (ℕ × List Hint)) → ¬ hint_section.spells (0x01 ∷ 0x02 ∷ 0x01 ∷ 0x05 ∷ 0x01 ∷ 0x02 ∷ []) entries
unfolding unsigned_at found_at vector_at elements_at whole hint_at hint_entry_at
other_is entries = not_spelled (0x01 ∷ 0x02 ∷ 0x01 ∷ 0x05 ∷ 0x01 ∷ 0x02 ∷ []) entries refl

pub longer_is : (entries : List (ℕ × List Hint)) → ¬ hint_section.spells (0x01 ∷ 0x02 ∷ 0x01 ∷ 0x05 ∷ 0x01 ∷ 0x01 ∷ 0x00 ∷ []) entries
unfolding unsigned_at found_at vector_at elements_at whole hint_at hint_entry_at
longer_is entries = not_spelled (0x01 ∷ 0x02 ∷ 0x01 ∷ 0x05 ∷ 0x01 ∷ 0x01 ∷ 0x00 ∷ []) entries refl
