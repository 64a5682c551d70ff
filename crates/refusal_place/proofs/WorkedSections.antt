-- The worked lists of sections.
use Rattle.std.proofs.Common.{◌≡◌, ℕ, ◌+◌, List, [], ◌∷◌, ◌++◌, length, drop, Option, Some, None, true, refl, sym, ap, subst, ◌∙◌, arith}
use Rattle.std.specs.Str.{is_utf8, IsAscii}
use Rattle.std.proofs.lemmas.List.{length-append}
use Rattle.std.proofs.lemmas.Str.{IsUtf8-from_ascii, is_utf8-from_IsUtf8}
use Rattle.wasm_spec.specs.Numbers.{SpellsUnsigned}
use Rattle.wasm_spec.specs.Grammar.{name}
use Rattle.form_reader.specs.ReadingNumbers.{unsigned_at}
use Rattle.form_reader.specs.Agrees.{ok_is}
use Rattle.form_reader.specs.NumberLaws.{unsigned_agrees}
use Rattle.refusal_place.specs.declared.section_list.SectionPlace.{SectionPlace}
use Rattle.refusal_place.specs.SectionList.{AreSections, HasName, HasNoSection, IsSection, IsSectionList, name_of, fields_of}
use Rattle.refusal_place.specs.Worked.{cut_bytes, custom_contents, custom_row, memory_row, two_sections}
use Rattle.refusal_place.proofs.Passing.{after_header}
use Rattle.refusal_place.proofs.SectionParts.{pair_is, size_again}
use Rattle.refusal_place.proofs.SectionsComplete.{same_section}

abbrev memory_rest : List ℕ
memory_rest = 0x05 ∷ 0x03 ∷ 0x01 ∷ 0x00 ∷ 0x01 ∷ []

abbrev two_rest : List ℕ
two_rest = 0x00 ∷ 0x03 ∷ (custom_contents ++ memory_rest)

three : SpellsUnsigned 32 (0x03 ∷ []) 3
three = record { form = omega arith; short = omega arith; value = refl; fits = omega arith }

one : SpellsUnsigned 32 (0x01 ∷ []) 1
one = record { form = omega arith; short = omega arith; value = refl; fits = omega arith }

ascii : is_utf8 (0x61 ∷ []) ≡ true
ascii = is_utf8-from_IsUtf8 (0x61 ∷ []) (IsUtf8-from_ascii (0x61 ∷ []) one_ascii) where
  one_ascii : IsAscii (0x61 ∷ [])
  one_ascii h = grind arith

spelled : name.spells (0x01 ∷ 0x61 ∷ []) (0x61 ∷ [])
spelled = (record { value = 1; front = 0x01 ∷ []; back = 0x61 ∷ []; parts = refl; is_first = one; is_second = (refl, refl) }, ascii)

has_name : HasName 0 custom_contents (Some (0x61 ∷ []))
has_name = (refl, (0x01 ∷ 0x61 ∷ [], 0x05 ∷ [], refl, spelled))

none_after : HasNoSection []
none_after id number contents later parts size = cc

abbrev Row : Type 0
Row = ℕ × ℕ × ℕ × ℕ × Option (List ℕ)

module _ (first second : SectionPlace) (is_first : fields_of first ≡ custom_row) (is_second : fields_of second ≡ memory_row) where
  custom : IsSection 8 two_rest first memory_rest
  custom = record {
    number = 0x03 ∷ [];
    contents = custom_contents;
    parts = ap (λ (r : Row). r.0 ∷ (0x03 ∷ (custom_contents ++ memory_rest))) (sym is_first);
    size_is = three;
    places = (ap (λ (r : Row). r.1) is_first, ap (λ (r : Row). r.2) is_first, ap (λ (r : Row). r.3) is_first);
    name_is = subst (λ (r : Row). HasName r.0 custom_contents r.4) (sym is_first) has_name;
  }

  memory : IsSection 13 memory_rest second []
  memory = record {
    number = 0x03 ∷ [];
    contents = 0x01 ∷ 0x00 ∷ 0x01 ∷ [];
    parts = ap (λ (r : Row). r.0 ∷ (0x03 ∷ 0x01 ∷ 0x00 ∷ 0x01 ∷ [])) (sym is_second);
    size_is = three;
    places = (ap (λ (r : Row). r.1) is_second, ap (λ (r : Row). r.2) is_second, ap (λ (r : Row). r.3) is_second);
    name_is = subst (λ (r : Row). HasName r.0 (0x01 ∷ 0x00 ∷ 0x01 ∷ []) r.4) (sym is_second) (λ custom. absurd (omega (arith, custom)));
  }

  end : 13 ≡ first.contents + first.size
  end = omega (arith, ap (λ (r : Row). r.2) is_first, ap (λ (r : Row). r.3) is_first)

  both_are : AreSections 8 two_rest (first ∷ second ∷ [])
  both_are = (memory_rest, custom, subst (λ n. AreSections n memory_rest (second ∷ [])) end ([], memory, none_after))

  pub two_listed : IsSectionList two_sections (first ∷ second ∷ [])
  two_listed = record {
    sections = λ rest is short. subst (λ l. AreSections 8 l (first ∷ second ∷ [])) (after_header two_rest rest is) both_are;
    no_header = λ other. absurd (other two_rest refl);
    too_long = λ long. absurd (omega (arith, long));
  }

-- the first of some sections
module _ (first : SectionPlace) (places : List SectionPlace) (is : IsSectionList two_sections (first ∷ places)) where
  abbrev are : AreSections 8 two_rest (first ∷ places)
  are = is.sections two_rest refl (omega arith)

  abbrev first_is : (first.id ≡ 0) × (first.contents ≡ 10) × (first.size ≡ 3) × (are.0 ≡ memory_rest) × HasName 0 custom_contents (name_of first)
  first_is = same_section 8 two_rest first are.0 are.1 0 (0x03 ∷ []) custom_contents memory_rest refl three

  others : AreSections (first.contents + first.size) memory_rest places
  others = subst (λ l. AreSections (first.contents + first.size) l places) first_is.3 are.2

pub not_one : (first : SectionPlace) → ¬ IsSectionList two_sections (first ∷ [])
not_one first is = others first [] is 0x05 (0x03 ∷ []) (0x01 ∷ 0x00 ∷ 0x01 ∷ []) [] refl three

pub second_starts : (first second : SectionPlace) → IsSectionList two_sections (first ∷ second ∷ []) → second.start ≡ 13
second_starts first second is =
    let f = first_is first (second ∷ []) is in
    let o = others first (second ∷ []) is in
    omega (arith, o.1.places.0, f.1, f.2)

pub first_named : (first second : SectionPlace) → IsSectionList two_sections (first ∷ second ∷ []) → ¬ (name_of first ≡ None)
first_named first second is none =
    let named = (first_is first (second ∷ []) is).4 in
    subst (HasName 0 custom_contents) none named refl (0x01 ∷ 0x61 ∷ []) (0x05 ∷ []) (0x61 ∷ []) refl spelled

-- ---- a section that is cut

none_cut : HasNoSection (0x05 ∷ 0x03 ∷ 0x01 ∷ [])
none_cut id number contents later parts size =
    let read = (unsigned_agrees 32).again (0x03 ∷ []) 3 (0x01 ∷ []) three in
    let both = pair_is (3, 0x01 ∷ []) (length contents, contents ++ later) (ok_is (3, 0x01 ∷ []) (length contents, contents ++ later)
    (sym read ∙ ap (λ (l : List ℕ). unsigned_at 32 (drop 1 l)) parts ∙ size_again number contents later size)) in
    omega (arith, both.0, ap length both.1, length-append contents later)

pub cut_listed : IsSectionList cut_bytes []
cut_listed = record {
  sections = λ rest is short. subst HasNoSection (after_header (0x05 ∷ 0x03 ∷ 0x01 ∷ []) rest is) none_cut;
  no_header = λ other. refl;
  too_long = λ long. refl;
}

pub not_cut : (p : SectionPlace) (ps : List SectionPlace) → ¬ IsSectionList cut_bytes (p ∷ ps)
not_cut p ps is =
    let s = (is.sections (0x05 ∷ 0x03 ∷ 0x01 ∷ []) refl (omega arith)).1 in
    none_cut p.id s.number s.contents _ s.parts s.size_is
