-- Name sections, read.
use Rattle.std.proofs.Common.{◌≡◌, ℕ, ◌<◌, List, [], ◌∷◌, true, false, refl, sym, ap, ◌∙◌, lit<, arith}
use Rattle.std.specs.Prelude.{codes}
use Rattle.std.specs.Str.{is_utf8, IsAscii}
use Rattle.std.proofs.lemmas.Str.{IsUtf8-from_ascii, is_utf8-from_IsUtf8}
use Rattle.form_reader.specs.Reading.{whole, raw_bytes_at}
use Rattle.form_reader.specs.ReadingNumbers.{unsigned_at, found_at, counted_bytes_at, name_at}
use Rattle.custom_sections.specs.NameLists.{NameLists, no_names}
use Rattle.custom_sections.specs.NameReading.{elements_before, vector_before, naming_at, subsection, sized_subsection_at, subsections_before, names_of_section}
use Rattle.custom_sections.specs.CutNames.{TellNames}
use Rattle.custom_sections.proofs.ToldNames.{told_are_read}

one_ascii : (b : ℕ) → b < 128 → IsAscii (b ∷ [])
one_ascii b lt h3 = grind arith

-- a byte below 128 is text
pub one_char : (b : ℕ) → b < 128 → is_utf8 (b ∷ []) ≡ true
one_char b lt = is_utf8-from_IsUtf8 (b ∷ []) (IsUtf8-from_ascii (b ∷ []) (one_ascii b lt))

-- ---- two names, cut in the second

abbrev first : NameLists
first = record no_names { functions = (0, codes "a") ∷ [] }

cut_read : names_of_section false (0x01 ∷ 0x06 ∷ 0x02 ∷ 0x00 ∷ 0x01 ∷ 0x61 ∷ 0x01 ∷ 0x05 ∷ []) ≡ first
unfolding whole raw_bytes_at unsigned_at found_at counted_bytes_at name_at elements_before vector_before naming_at subsection sized_subsection_at subsections_before names_of_section
cut_read = rw (one_char 97 (lit< tt)) refl

pub first_told : TellNames false (0x01 ∷ 0x06 ∷ 0x02 ∷ 0x00 ∷ 0x01 ∷ 0x61 ∷ 0x01 ∷ 0x05 ∷ []) first
first_told = (told_are_read false (0x01 ∷ 0x06 ∷ 0x02 ∷ 0x00 ∷ 0x01 ∷ 0x61 ∷ 0x01 ∷ 0x05 ∷ []) first).1 cut_read

not_empty : {A : Type 0} (x : A) (xs : List A) → x ∷ xs ≡ [] → ⊥
not_empty x xs e = absurd cc

pub not_nothing : ¬ TellNames false (0x01 ∷ 0x06 ∷ 0x02 ∷ 0x00 ∷ 0x01 ∷ 0x61 ∷ 0x01 ∷ 0x05 ∷ []) no_names
not_nothing told =
    let read = (told_are_read false (0x01 ∷ 0x06 ∷ 0x02 ∷ 0x00 ∷ 0x01 ∷ 0x61 ∷ 0x01 ∷ 0x05 ∷ []) no_names).0 told in
    not_empty (0, codes "a") [] (ap (λ (n : NameLists). n.functions) (sym cut_read ∙ read))

-- ---- names of locals, cut in the second

abbrev first_locals : NameLists
first_locals = record no_names { locals = (3, (0, codes "x") ∷ []) ∷ [] }

locals_read : names_of_section true (0x02 ∷ 0x07 ∷ 0x02 ∷ 0x03 ∷ 0x02 ∷ 0x00 ∷ 0x01 ∷ 0x78 ∷ 0x01 ∷ []) ≡ first_locals
unfolding whole raw_bytes_at unsigned_at found_at counted_bytes_at name_at elements_before vector_before naming_at subsection sized_subsection_at subsections_before names_of_section
locals_read = rw (one_char 120 (lit< tt)) refl

pub local_told : TellNames true (0x02 ∷ 0x07 ∷ 0x02 ∷ 0x03 ∷ 0x02 ∷ 0x00 ∷ 0x01 ∷ 0x78 ∷ 0x01 ∷ []) first_locals
local_told = (told_are_read true (0x02 ∷ 0x07 ∷ 0x02 ∷ 0x03 ∷ 0x02 ∷ 0x00 ∷ 0x01 ∷ 0x78 ∷ 0x01 ∷ []) first_locals).1 locals_read
