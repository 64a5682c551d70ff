-- The worked section entry, and where it begins.
use Rattle.std.proofs.Common.{◌≡◌, ℕ, ◌≤◌, List, [], ◌∷◌, Ok, true, refl, sym, subst, ◌∙◌, arith, inr}
use Rattle.std.specs.Str.{is_utf8}
use Rattle.std.proofs.lemmas.List.{append-nil}
use Rattle.std.proofs.lemmas.List.Elements.{All-nil, All-cons}
use Rattle.std.proofs.lemmas.Str.{IsUtf8-nil, is_utf8-from_IsUtf8}
use Rattle.wasm_spec.specs.declared.entities.TypeRef.TheVariants as imported
use Rattle.wasm_spec.specs.Grammar.{Spells}
use Rattle.wasm_spec.specs.Interfaces.{HasNoInterfaceTypes}
use Rattle.wasm_spec.specs.Module.{Imports}
use Rattle.wasm_spec.specs.Numbers.{SpellsUnsigned}
use Rattle.form_reader.specs.Reading.{raw_bytes_at, elements_at, whole}
use Rattle.form_reader.specs.ReadingNumbers.{found_at, unsigned_at, vector_at, counted_bytes_at, name_at, sized_at}
use Rattle.form_reader.specs.ReadingSections.{sections_at, module_at}
use Rattle.form_reader.specs.NumberLaws.{unsigned_agrees}
use Rattle.form_reader.specs.TypeRows.{memory_type, flagged_memory_type}
use Rattle.form_reader.specs.SectionRows.{section, section_contents, import_entry, imported_after}
use Rattle.form_reader.proofs.SectionLaws.{module_found}
use Rattle.rule_spec.specs.declared.rules.Rule.TheVariants.{L1, L2, L3, L4}
use Rattle.rule_spec.specs.Lists.{lists_of_module}
use Rattle.rule_spec.specs.TypeRules.{IsDeclaredWell, NamesFunctionType}
use Rattle.rule_spec.specs.Limits.{HasLimits, IsOrdered}
use Rattle.rule_spec.specs.Rules.{KeepsBefore, locals}
use Rattle.rule_spec.specs.WorkedKept.{one_page}
use Rattle.refusal_place.specs.declared.kind.SectionKind.TheVariants as kind
use Rattle.refusal_place.specs.Entries.{IsEntryAt}
use Rattle.refusal_place.specs.Found.{ReadsUpTo}
use Rattle.refusal_place.specs.Places.{HasContents}
use Rattle.refusal_place.proofs.ContentLaws.{lists}
use Rattle.refusal_place.proofs.Passing.{IsReadTo, reads_header, reads_more}
use Rattle.rule_breaks.specs.Breaks.{Counts}
use Rattle.rule_breaks.specs.Refused.{BreaksFirst}
use Rattle.rule_breaks.specs.Worked.{narrow, imported_and_narrow, imported_and_narrow_bytes, narrow_section, narrow_is_broken}

pub page_kept : HasLimits one_page
page_kept = record { ordered = tt; page_size = tt; initial_fits = omega arith; maximum_fits = tt; bounded = λ shared. absurd cc }

pub narrow_breaks : HasLimits narrow → ⊥
narrow_breaks limits = let ordered : 2 ≤ 1 = limits.ordered in absurd (omega (arith, ordered))

-- ---- the module is spelled

no_text : is_utf8 [] ≡ true
no_text = is_utf8-from_IsUtf8 [] IsUtf8-nil

module_read : module_at imported_and_narrow_bytes ≡ Ok imported_and_narrow
unfolding module_at sections_at section section_contents import_entry imported_after memory_type flagged_memory_type raw_bytes_at elements_at whole found_at unsigned_at vector_at counted_bytes_at name_at sized_at
module_read = rw (no_text, no_text) refl

pub is_spelled : Spells imported_and_narrow_bytes imported_and_narrow × HasNoInterfaceTypes imported_and_narrow
is_spelled = module_found imported_and_narrow_bytes imported_and_narrow module_read

-- ---- the rules before

pub keeps_before : KeepsBefore L4 imported_and_narrow
keeps_before L1 lower = All-nil (IsDeclaredWell (lists_of_module imported_and_narrow))
keeps_before L2 lower = record {
  functions = All-nil (NamesFunctionType (lists_of_module imported_and_narrow));
  tags = All-nil (NamesFunctionType (lists_of_module imported_and_narrow));
}
keeps_before L3 lower = record {
  bodies = refl;
  data_segments = All-nil (Counts (lists_of_module imported_and_narrow));
  locals = All-nil (λ b. locals b ≤ 4294967295);
}
keeps_before r lower = absurd (omega (arith, lower))

-- ---- the memory section

imports_read : (section 8 0).read (0x02 ∷ 0x06 ∷ 0x01 ∷ 0x00 ∷ 0x00 ∷ 0x02 ∷ 0x00 ∷ 0x01 ∷ narrow_section)
    ≡ Ok (Imports (record { space = []; name = []; type = imported.Memory one_page } ∷ []), narrow_section)
unfolding section section_contents import_entry imported_after memory_type flagged_memory_type raw_bytes_at elements_at whole found_at unsigned_at vector_at counted_bytes_at name_at sized_at
imports_read = rw (no_text, no_text) refl

pub comes_to : IsReadTo imported_and_narrow_bytes 16 2 narrow_section
comes_to = reads_more imported_and_narrow_bytes 8 0 _ _ narrow_section (reads_header imported_and_narrow_bytes _ refl) imports_read

spelled : (bytes : List ℕ) (n : ℕ) → unsigned_at 32 bytes ≡ Ok (n, []) → SpellsUnsigned 32 bytes n
spelled bytes n e =
    let f = (unsigned_agrees 32).found bytes n [] e in
    let P : List ℕ → Type 0 = λ l. SpellsUnsigned 32 l n in
    subst P (sym (f.1 ∙ append-nil f.0)) f.2

four_is : SpellsUnsigned 32 (0x04 ∷ []) 4
unfolding found_at unsigned_at
four_is = spelled (0x04 ∷ []) 4 refl

abbrev contents : List ℕ
contents = 0x01 ∷ 0x01 ∷ 0x02 ∷ 0x01 ∷ []

has_contents : HasContents kind.Memory narrow_section contents 2
has_contents = record { number = 0x04 ∷ []; later = []; parts = refl; size_is = four_is; offset_is = refl }

first_entry : ReadsUpTo memory_type.read contents 0 1 1 (0x01 ∷ 0x02 ∷ 0x01 ∷ [])
unfolding elements_at found_at unsigned_at
first_entry = record { first = 0x01 ∷ 0x02 ∷ 0x01 ∷ []; entries = []; counts = refl; before = refl; offset_is = refl }

pub begins : IsEntryAt imported_and_narrow_bytes kind.Memory 0 19
begins = record {
  start = 16;
  next = 2;
  rest = narrow_section;
  contents = contents;
  before = 2;
  offset = 1;
  comes_to = comes_to.comes;
  has = has_contents;
  entry_is = record {
    count = 1;
    rest = 0x01 ∷ 0x02 ∷ 0x01 ∷ [];
    lists = lists memory_type.read _ memory_type.agrees contents 0 1 1 (0x01 ∷ 0x02 ∷ 0x01 ∷ []) first_entry;
    listed = omega arith;
  };
  byte_is = refl;
}

pub narrow_is_first : BreaksFirst imported_and_narrow_bytes narrow_is_broken
narrow_is_first = record {
  of = imported_and_narrow;
  spelled = is_spelled.0;
  no_interface_types = is_spelled.1;
  before = keeps_before;
  first = (
    All-nil IsOrdered,
    record { before = All-cons HasLimits one_page [] page_kept (All-nil HasLimits); listed = omega arith; lacks = narrow_breaks },
  );
  section_entry = inr (refl, refl);
  byte = begins;
  fault = (refl, refl, omega arith);
}
