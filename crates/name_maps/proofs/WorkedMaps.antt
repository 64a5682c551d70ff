-- The worked examples, read.
use Rattle.std.proofs.Common.{◌≡◌, ℕ, suc, List, [], ◌∷◌, ◌++◌, take, drop, true, Option, Some, Result, Ok, refl, sym, ap, subst, ◌∙◌, lit<, arith}
use Rattle.std.specs.Prelude.{codes}
use Rattle.std.specs.Str.{is_utf8, IsAscii}
use Rattle.std.proofs.lemmas.Str.{IsUtf8-from_ascii, is_utf8-from_IsUtf8}
use Rattle.wasm_spec.specs.Numbers.{SpellsUnsigned}
use Rattle.wasm_spec.specs.Parts.{choose}
use Rattle.wasm_spec.specs.Grammar.{name}
use Rattle.form_reader.specs.Reading.{Fault, whole, raw_bytes_at}
use Rattle.form_reader.specs.ReadingNumbers.{unsigned_at, found_at, counted_bytes_at, name_at}
use Rattle.custom_sections.specs.CutNames.{tells_nothing}
use Rattle.custom_sections.specs.NameReading.{elements_before, vector_before, naming_at, sized_subsection_at}
use Rattle.custom_sections.proofs.WorkedNames.{one_char}
use Rattle.refusal_place.specs.declared.section_list.SectionPlace.{SectionPlace}
use Rattle.refusal_place.specs.SectionList.{fields_of}
use Rattle.name_maps.specs.Entries.{NameMapEntry}
use Rattle.name_maps.specs.NameMaps.{subsections_told, name_section}
use Rattle.name_maps.specs.Told.{is_named, SectionsTell}
use Rattle.name_maps.specs.Reading.{left_of, contents_read, module_read, subsection_before, subsections_before}
use Rattle.name_maps.specs.Worked.{cut_globals, first_global, cut_labels, first_label, skipped_first, of_module, named_bytes, row_with}
use Rattle.name_maps.proofs.AsRead.{subsections_only}

globals_read : subsections_before 8 cut_globals ≡ first_global ∷ []
unfolding whole raw_bytes_at unsigned_at found_at counted_bytes_at name_at elements_before vector_before naming_at sized_subsection_at contents_read
globals_read = rw (one_char 97 (lit< tt)) refl

labels_read : subsections_before 9 cut_labels ≡ first_label ∷ []
unfolding whole raw_bytes_at unsigned_at found_at counted_bytes_at name_at elements_before vector_before naming_at sized_subsection_at contents_read
labels_read = rw (one_char 120 (lit< tt)) refl

module_read_as : whole name_at (0x01 ∷ 0x6D ∷ []) ≡ Ok (0x6D ∷ [])
unfolding whole raw_bytes_at unsigned_at found_at counted_bytes_at name_at
module_read_as = rw (one_char 109 (lit< tt)) refl

-- a subsection without a fault, and those after it
one_read : (n : ℕ) (bytes : List ℕ) (x : List NameMapEntry) (rest : List ℕ) → subsection_before bytes ≡ (Some x, Some rest)
    → subsections_before (suc n) bytes ≡ x ++ subsections_before n rest
unfolding elements_before
one_read n bytes x rest e = rw e refl

abbrev behind : List ℕ
behind = 0x00 ∷ 0x02 ∷ 0x01 ∷ 0x6D ∷ []

abbrev read_as : Result (List ℕ) Fault → Option (List NameMapEntry) × Option (List ℕ)
read_as r = (Some (module_read 0 r).0, left_of (module_read 0 r).1 [])

is_skipped : subsection_before skipped_first ≡ (Some [], Some behind)
unfolding raw_bytes_at unsigned_at found_at counted_bytes_at sized_subsection_at contents_read
is_skipped = refl

is_module : subsection_before behind ≡ (Some (of_module ∷ []), Some [])
unfolding whole raw_bytes_at unsigned_at found_at counted_bytes_at name_at sized_subsection_at contents_read
is_module = ap read_as module_read_as

none_read : subsections_before 5 [] ≡ []
unfolding elements_before sized_subsection_at
none_read = refl

skipped_read : subsections_before 7 skipped_first ≡ of_module ∷ []
skipped_read =
    one_read 6 skipped_first [] behind is_skipped ∙ one_read 5 behind (of_module ∷ []) [] is_module ∙ ap (λ (l : List NameMapEntry). of_module ∷ l) none_read

pub global : (subsections_told 8).spells cut_globals (first_global ∷ [])
global = subst (λ e. (subsections_told 8).spells cut_globals e) globals_read (subsections_only 8 cut_globals).spelled

pub no_other : (entries : List NameMapEntry) → (subsections_told 8).spells cut_globals entries → entries ≡ first_global ∷ []
no_other entries told = (subsections_only 8 cut_globals).only entries told ∙ globals_read

pub label : (subsections_told 9).spells cut_labels (first_label ∷ [])
label = subst (λ e. (subsections_told 9).spells cut_labels e) labels_read (subsections_only 9 cut_labels).spelled

pub module_behind : (subsections_told 7).spells skipped_first (of_module ∷ [])
module_behind = subst (λ e. (subsections_told 7).spells skipped_first e) skipped_read (subsections_only 7 skipped_first).spelled

-- ---- a section

abbrev title : List ℕ
title = 0x6E ∷ 0x61 ∷ 0x6D ∷ 0x65 ∷ []

abbrev inside : List ℕ
inside = 0x04 ∷ (title ++ cut_globals)

four : SpellsUnsigned 32 (0x04 ∷ []) 4
four = record { form = omega arith; short = omega arith; value = refl; fits = omega arith }

title_ascii : IsAscii title
title_ascii h = grind arith

is_text : is_utf8 title ≡ true
is_text = is_utf8-from_IsUtf8 title (IsUtf8-from_ascii title title_ascii)

title_spelled : name.spells (0x04 ∷ title) title
title_spelled = (record { value = 4; front = 0x04 ∷ []; back = title; parts = refl; is_first = four; is_second = (refl, refl) }, is_text)

globals_again : subsections_before 13 cut_globals ≡ first_global ∷ []
unfolding whole raw_bytes_at unsigned_at found_at counted_bytes_at name_at elements_before vector_before naming_at sized_subsection_at contents_read
globals_again = rw (one_char 97 (lit< tt)) refl

section_spelled : (name_section 13).spells inside (first_global ∷ [])
section_spelled = record {
  value = title;
  front = 0x04 ∷ title;
  back = cut_globals;
  parts = refl;
  is_first = title_spelled;
  is_second = subst (λ e. (subsections_told 13).spells cut_globals e) globals_again (subsections_only 13 cut_globals).spelled;
}

abbrev Row : Type 0
Row = ℕ × ℕ × ℕ × ℕ × Option (List ℕ)

abbrev RowTells : List NameMapEntry → Row → Type 0
RowTells entries r = (choose (is_named r.4) (name_section r.3) tells_nothing).spells (take r.3 (drop r.2 named_bytes)) entries

pub section : (p : SectionPlace) → fields_of p ≡ row_with (codes "name") → SectionsTell named_bytes (p ∷ []) (first_global ∷ [])
section p e = (first_global ∷ [], [], refl, subst (RowTells (first_global ∷ [])) (sym e) section_spelled, refl)

not_empty : {A : Type 0} (x : A) (xs : List A) → x ∷ xs ≡ [] → ⊥
not_empty x xs e = absurd cc

pub other_name : (p : SectionPlace) → fields_of p ≡ row_with (codes "nome") → ¬ SectionsTell named_bytes (p ∷ []) (first_global ∷ [])
other_name p e (front, back, parts, told, none) =
    let nothing : front ≡ [] = subst (RowTells front) e told in
    not_empty first_global [] (parts ∙ ap (λ (l : List NameMapEntry). l ++ back) nothing ∙ none)
