-- The worked places.
use Rattle.std.proofs.Common.{◌≡◌, ℕ, ◌≤◌, List, [], ◌∷◌, ◌++◌, length, take, drop, Some, None, Ok, Err, refl, sym, ap, subst, ◌∙◌, arith, inl, inr}
use Rattle.std.specs.Prelude.{false}
use Rattle.std.proofs.lemmas.List.{append-nil, nil_from_length, length-append, take_at}
use Rattle.wasm_spec.specs.declared.entities.MemoryType.{MemoryType}
use Rattle.wasm_spec.specs.Module.{Module, Memories}
use Rattle.wasm_spec.specs.Numbers.{SpellsUnsigned}
use Rattle.wasm_spec.specs.TypeGrammar as grammar
use Rattle.wasm_spec.specs.Grammar.{header}
use Rattle.form_reader.specs.Reading.{Bad, raw_bytes_at, elements_at, whole}
use Rattle.form_reader.specs.ReadingNumbers.{found_at, unsigned_at, vector_at, counted_bytes_at, sized_at}
use Rattle.form_reader.specs.ReadingSections.{sections_at, module_at}
use Rattle.form_reader.specs.Agrees.{ok_is}
use Rattle.form_reader.specs.NumberLaws.{unsigned_agrees}
use Rattle.form_reader.specs.TypeRows.{memory_type, flagged_memory_type}
use Rattle.form_reader.specs.SectionRows.{section, section_contents}
use Rattle.form_reader.proofs.SectionLaws.{module_found}
use Rattle.refusal_place.specs.declared.kind.SectionKind.{SectionKind}
use Rattle.refusal_place.specs.declared.kind.SectionKind.TheVariants as kind
use Rattle.refusal_place.specs.declared.place.Fault.TheVariants as fault
use Rattle.refusal_place.specs.Found.{AreUnread, IsFirstUnread, IsDecidedBy}
use Rattle.refusal_place.specs.Places.{Decides, ComesTo, HasContents, HasWrongContents, IsCut, IsFirstUnspelled, IsInContents, IsPlaceOf}
use Rattle.refusal_place.specs.Worked.{in_header, memory_contents, memory_bytes, at_memory, cut_bytes, at_cut}
use Rattle.refusal_place.proofs.AfterId.{contents_decide, after_decides}
use Rattle.refusal_place.proofs.ContentLaws.{wrong_entries}
use Rattle.refusal_place.proofs.Located.{header_place, is_place, is_decided}
use Rattle.refusal_place.proofs.Passing.{reads_header}

-- ---- a header that is cut

pub header_is : IsPlaceOf (take 4 header) (in_header 4)
header_is = header_place (take 4 header) 4 (record { same = refl; within = omega arith; other = λ e. absurd cc; short = omega arith })

pub header_is_not : ¬ IsPlaceOf (take 4 header) (in_header 3)
header_is_not p = elim p.place [
  | inl h ↦ h.1.other refl
  | inr s ↦ s.wrong
]

-- ---- the first section

-- a section at 8 has all bytes after the header
rest_is : (body rest : List ℕ) (next : ℕ) → ComesTo (header ++ body) 8 next rest → body ≡ rest
rest_is body rest next c =
    let none : c.front ≡ [] = nil_from_length c.front (omega (arith, c.start_is)) in
    ap (drop 8) c.parts ∙ ap (λ (l : List ℕ). l ++ rest) none

-- one number is at the front, and one rest after it
number_is : (bytes number after rest : List ℕ) (n m : ℕ) → unsigned_at 32 bytes ≡ Ok (m, rest) → bytes ≡ number ++ after → SpellsUnsigned 32 number n
    → (n ≡ m) × (after ≡ rest)
number_is bytes number after rest n m e parts s =
    let both : (n, after) ≡ (m, rest) =
    ok_is (n, after) (m, rest) (sym ((unsigned_agrees 32).again number n after s) ∙ ap (unsigned_at 32) (sym parts) ∙ e) in
    (ap (λ (q : ℕ × List ℕ). q.0) both, ap (λ (q : ℕ × List ℕ). q.1) both)

-- a number that is read is spelled
spelled : (bytes : List ℕ) (n : ℕ) → unsigned_at 32 bytes ≡ Ok (n, []) → SpellsUnsigned 32 bytes n
spelled bytes n e =
    let f = (unsigned_agrees 32).found bytes n [] e in
    let P : List ℕ → Type 0 = λ l. SpellsUnsigned 32 l n in
    subst P (sym (f.1 ∙ append-nil f.0)) f.2

-- ---- two memories

abbrev one_page : MemoryType
one_page = record { memory64 = false; shared = false; initial = 1; maximum = None; page_size_log2 = None }

abbrev pub memory_section : List ℕ
memory_section = 0x05 ∷ 0x05 ∷ memory_contents

pub second_unread : IsFirstUnread Bad memory_type.read memory_contents 1 3
unfolding memory_type flagged_memory_type elements_at found_at unsigned_at
second_unread = record {
  count = 2;
  rest = 0x10 ∷ 0x01 ∷ [];
  up_to = record { first = 0x00 ∷ 0x01 ∷ 0x10 ∷ 0x01 ∷ []; entries = one_page ∷ []; counts = refl; before = refl; offset_is = refl };
  listed = omega arith;
  unread = refl;
}

size_read : unsigned_at 32 (0x05 ∷ memory_contents) ≡ Ok (5, memory_contents)
unfolding found_at unsigned_at
size_read = refl

count_read : unsigned_at 32 memory_contents ≡ Ok (2, 0x00 ∷ 0x01 ∷ 0x10 ∷ 0x01 ∷ [])
unfolding found_at unsigned_at
count_read = refl

first_read : memory_type.read (0x00 ∷ 0x01 ∷ 0x10 ∷ 0x01 ∷ []) ≡ Ok (one_page, 0x10 ∷ 0x01 ∷ [])
unfolding memory_type flagged_memory_type found_at unsigned_at
first_read = refl

pub section_unread : (section 8 0).read memory_section ≡ Err Bad
unfolding section section_contents memory_type flagged_memory_type raw_bytes_at elements_at whole found_at unsigned_at vector_at counted_bytes_at sized_at
section_unread = refl

five_is : SpellsUnsigned 32 (0x05 ∷ []) 5
unfolding found_at unsigned_at
five_is = spelled (0x05 ∷ []) 5 refl

pub memory_has : HasContents kind.Memory memory_section memory_contents 2
memory_has = record { number = 0x05 ∷ []; later = []; parts = refl; size_is = five_is; offset_is = refl }

pub count_is : (number after : List ℕ) (n : ℕ) → memory_contents ≡ number ++ after → SpellsUnsigned 32 number n → n ≡ 2
count_is number after n parts s = (number_is memory_contents number after (0x00 ∷ 0x01 ∷ 0x10 ∷ 0x01 ∷ []) n 2 count_read parts s).0

pub second_is : IsPlaceOf memory_bytes (at_memory 1 13)
second_is = is_place memory_bytes 8 0 (omega arith) (reads_header memory_bytes memory_section refl) (omega arith) Bad section_unread (at_memory 1 13) (
  refl,
  record {
    section = kind.Memory;
    contents = memory_contents;
    start = 2;
    offset = 3;
    has = memory_has;
    wrong = wrong_entries _ _ memory_type.agrees kind.Memory (λ P h. h) memory_contents fault.Entry (Some 1) 3 second_unread;
    section_is = refl;
    byte_is = refl;
  },
) (omega arith)

pub first_is_spelled : (offset : ℕ) → ¬ IsFirstUnspelled grammar.memory_type memory_contents 0 offset
first_is_spelled offset u =
    let same = number_is memory_contents u.lists.number (u.lists.front ++ u.rest) (0x00 ∷ 0x01 ∷ 0x10 ∷ 0x01 ∷ []) u.count 2 count_read u.lists.parts u.lists.counts in
    let none : u.lists.front ≡ [] = u.lists.before.0 in
    let is : u.rest ≡ 0x00 ∷ 0x01 ∷ 0x10 ∷ 0x01 ∷ [] =
    ap (λ (l : List ℕ). l ++ u.rest) (sym none) ∙ same.1 in
    let f = memory_type.agrees.found (0x00 ∷ 0x01 ∷ 0x10 ∷ 0x01 ∷ []) one_page (0x10 ∷ 0x01 ∷ []) first_read in
    u.unspelled f.0 (0x10 ∷ 0x01 ∷ []) one_page (is ∙ f.1) f.2

pub contents_are : (k : SectionKind) (contents : List ℕ) (start : ℕ) → HasContents k memory_section contents start → contents ≡ memory_contents
contents_are k contents start has =
    let same = number_is (0x05 ∷ memory_contents) has.number (contents ++ has.later) memory_contents (length contents) 5 size_read (ap (drop 1) has.parts) has.size_is in
    sym (take_at contents has.later 5 same.0) ∙ ap (take 5) same.1

not_first : (byte next : ℕ) (rest : List ℕ) → ComesTo memory_bytes 8 next rest → HasWrongContents rest (at_memory 0 byte) → ⊥
not_first byte next rest c w =
    let r : memory_section ≡ rest = rest_is memory_section rest next c in
    let k : w.section ≡ kind.Memory = cc in
    let P : List ℕ → Type 0 = λ l. HasContents w.section l w.contents w.start in
    let all : w.contents ≡ memory_contents = contents_are w.section w.contents w.start (subst P (sym r) w.has) in
    let Q : SectionKind → List ℕ → Type 0 = λ s l. IsInContents fault.Entry s l (Some 0) w.offset in
    let R : SectionKind → Type 0 = λ s. Q s w.contents in
    first_is_spelled w.offset (subst (Q kind.Memory) all (subst R k w.wrong))

pub first_is_not : (byte : ℕ) → ¬ IsPlaceOf memory_bytes (at_memory 0 byte)
first_is_not byte p = elim p.place [
  | inl h ↦ absurd cc
  | inr s ↦ not_first byte s.next s.rest s.comes_to s.wrong
]

contents_unread : AreUnread kind.Memory memory_contents
unfolding memory_type flagged_memory_type elements_at whole found_at unsigned_at vector_at
contents_unread = (Bad, refl)

section_decided : IsDecidedBy 8 0 memory_section 15
section_decided = after_decides 8 0 kind.Memory (0x05 ∷ memory_contents) 15 refl (contents_decide 8 kind.Memory (0x05 ∷ []) memory_contents [] 15 five_is refl contents_unread)

pub decided_is : Decides memory_bytes 15
decided_is = is_decided memory_bytes 8 0 (omega arith) (reads_header memory_bytes memory_section refl) (omega arith) Bad section_unread (Some 15) section_decided

-- after thirteen bytes, another memory may follow
other_read : module_at (take 13 memory_bytes ++ 0x00 ∷ 0x01 ∷ []) ≡ Ok (Memories (one_page ∷ one_page ∷ []) ∷ [])
unfolding module_at sections_at section section_contents memory_type flagged_memory_type raw_bytes_at elements_at whole found_at unsigned_at vector_at counted_bytes_at sized_at
other_read = refl

pub not_decided : ¬ Decides memory_bytes 13
not_decided d =
    let m : Module = Memories (one_page ∷ one_page ∷ []) ∷ [] in
    let f = module_found (take 13 memory_bytes ++ 0x00 ∷ 0x01 ∷ []) m other_read in
    d (0x00 ∷ 0x01 ∷ []) (m, f.0, f.1)

-- ---- a section that is cut

abbrev cut_section : List ℕ
cut_section = 0x05 ∷ 0x03 ∷ 0x01 ∷ []

cut_unread : (section 8 0).read cut_section ≡ Err Bad
unfolding section section_contents memory_type flagged_memory_type raw_bytes_at elements_at whole found_at unsigned_at vector_at counted_bytes_at sized_at
cut_unread = refl

cut_size : unsigned_at 32 (0x03 ∷ 0x01 ∷ []) ≡ Ok (3, 0x01 ∷ [])
unfolding found_at unsigned_at
cut_size = refl

three_is : SpellsUnsigned 32 (0x03 ∷ []) 3
unfolding found_at unsigned_at
three_is = spelled (0x03 ∷ []) 3 refl

pub cut_is : IsPlaceOf cut_bytes (at_cut 11 13)
cut_is = is_place cut_bytes 8 0 (omega arith) (reads_header cut_bytes cut_section refl) (omega arith) Bad cut_unread (at_cut 11 13) (
  refl,
  record {
    section = kind.Memory;
    number = 0x03 ∷ [];
    after = 0x01 ∷ [];
    size = 3;
    parts = refl;
    size_is = three_is;
    short = omega arith;
    end_is = refl;
    section_is = (refl, refl);
    byte_is = refl;
  },
) (omega arith)

pub cut_is_not_later : ¬ IsPlaceOf cut_bytes (at_cut 12 13)
cut_is_not_later p = let l : 12 ≤ 11 = p.within in omega (arith, l)

not_cut : (next : ℕ) (rest : List ℕ) → ComesTo cut_bytes 8 next rest → IsCut 12 rest (at_cut 11 12) → ⊥
not_cut next rest c w =
    let parts : 0x03 ∷ 0x01 ∷ [] ≡ w.number ++ w.after = ap (drop 1) (rest_is cut_section rest next c ∙ w.parts) in
    let same = number_is (0x03 ∷ 0x01 ∷ []) w.number w.after (0x01 ∷ []) w.size 3 cut_size parts w.size_is in
    omega (arith, ap length parts, length-append w.number w.after, same.0, ap length same.1, w.end_is)

pub cut_is_not_shorter : ¬ IsPlaceOf cut_bytes (at_cut 11 12)
cut_is_not_shorter p = elim p.place [
  | inl h ↦ absurd cc
  | inr s ↦ not_cut s.next s.rest s.comes_to s.wrong
]
