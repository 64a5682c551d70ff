-- The worked entries.
use Rattle.std.proofs.Common.{◌≡◌, ℕ, List, [], ◌∷◌, ◌++◌, drop, refl, sym, ap, subst, ◌∙◌, append_assoc, arith, inl, inr}
use Rattle.wasm_spec.specs.Grammar as grammar
use Rattle.wasm_spec.specs.TypeGrammar as types
use Rattle.wasm_spec.specs.Grammar.{SpellsSections}
use Rattle.wasm_spec.specs.Module.{Module, Payload}
use Rattle.form_reader.specs.Reading.{Bad}
use Rattle.form_reader.specs.Agrees.{bad_not_stops}
use Rattle.form_reader.specs.TypeRows.{memory_type}
use Rattle.form_reader.specs.SectionRows.{section}
use Rattle.form_reader.proofs.ContentLaws.{stops_taken}
use Rattle.refusal_place.specs.declared.kind.SectionKind.TheVariants as kind
use Rattle.refusal_place.specs.Places.{ComesTo, HasContents}
use Rattle.refusal_place.specs.Entries.{HasEntry, IsEntryAt}
use Rattle.refusal_place.specs.Worked.{memory_contents, memory_bytes}
use Rattle.refusal_place.proofs.ContentLaws.{lists}
use Rattle.refusal_place.proofs.Passing.{reads_header, is_unread}
use Rattle.refusal_place.proofs.WorkedPlaces.{memory_section, memory_has, second_unread, section_unread, contents_are, count_is}

pub entry_begins : IsEntryAt memory_bytes kind.Memory 1 13
entry_begins = record {
  start = 8;
  next = 0;
  rest = memory_section;
  contents = memory_contents;
  before = 2;
  offset = 3;
  comes_to = (reads_header memory_bytes memory_section refl).comes;
  has = memory_has;
  entry_is = record {
    count = second_unread.count;
    rest = second_unread.rest;
    lists = lists memory_type.read _ memory_type.agrees memory_contents 1 3 second_unread.count second_unread.rest second_unread.up_to;
    listed = second_unread.listed;
  };
  byte_is = refl;
}

-- no section is spelled at the front
no_section : (front rest : List ℕ) (p : Payload) → memory_section ≡ front ++ rest → (grammar.section 8 0).spells front p → ⊥
no_section front rest p parts s = elim (is_unread 8 0 memory_section Bad section_unread) [
  | inl none ↦ none front rest p parts s
  | inr stops ↦ bad_not_stops stops.0 (sym section_unread ∙ (section 8 0).agrees.stops_again memory_section stops.0 (stops_taken 8 0 memory_section stops.0 stops.1))
]

no_sections : (before : Module) (front rest : List ℕ) → memory_section ≡ front ++ rest → SpellsSections 8 0 front before → front ≡ []
no_sections [] front rest parts s = s
no_sections (p ∷ ps) front rest parts (f, b, both, first, later) =
    absurd (no_section f (b ++ rest) p (parts ∙ ap (λ (l : List ℕ). l ++ rest) both ∙ append_assoc f b rest) first)

rest_is : (start next : ℕ) (rest : List ℕ) → ComesTo memory_bytes start next rest → memory_section ≡ rest
rest_is start next rest c =
    let parts : memory_section ≡ c.front ++ rest = ap (drop 8) c.parts in
    parts ∙ ap (λ (l : List ℕ). l ++ rest) (no_sections c.before c.front rest parts c.are_sections)

not_listed : (contents : List ℕ) (offset : ℕ) → contents ≡ memory_contents → HasEntry types.memory_type contents 2 offset → ⊥
not_listed contents offset is e =
    let count : e.count ≡ 2 = count_is e.lists.number (e.lists.front ++ e.rest) e.count (sym is ∙ e.lists.parts) e.lists.counts in
    omega (arith, count, e.listed)

pub no_third_entry : (byte : ℕ) → ¬ IsEntryAt memory_bytes kind.Memory 2 byte
no_third_entry byte e =
    let P : List ℕ → Type 0 = λ l. HasContents kind.Memory l e.contents e.before in
    let has = subst P (sym (rest_is e.start e.next e.rest e.comes_to)) e.has in
    not_listed e.contents e.offset (contents_are kind.Memory e.contents e.before has) e.entry_is
