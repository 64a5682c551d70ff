-- Sections one after another, up to the first of a kind.
use Rattle.std.proofs.Common.{◌≡◌, ℕ, zero, suc, ◌+◌, ◌-◌, ◌<◌, ◌≤◌, ◌^◌, List, [], ◌∷◌, ◌++◌, length, drop, get_or, All, Some, None, Ok, true, refl, sym, ap, subst, ◌∙◌, append_assoc, arith, inl, inr}
use Rattle.std.specs.Prelude.{◌≢◌, ◌⊎◌, nat_eq}
use Rattle.std.specs.List.{starts_with}
use Rattle.std.proofs.lemmas.Bool.Decides.{Decides-eqb}
use Rattle.std.proofs.lemmas.Slice.Eq.{starts_is}
use Rattle.std.proofs.lemmas.List.{length-append, length-drop, drop-drop, nil_from_length}
use Rattle.std.proofs.lemmas.List.Elements.{All-nil, All-cons, All-head, All-tail}
use Rattle.wasm_spec.specs.Module.{Payload, Module}
use Rattle.wasm_spec.specs.Grammar as grammar
use Rattle.wasm_spec.specs.Grammar.{header, next_order, order_after_all, section_id, SpellsSections}
use Rattle.form_reader.specs.SectionRows.{section}
use Rattle.form_reader.proofs.ContentLaws.{taken_spells}
use Rattle.refusal_place.specs.declared.kind.SectionKind.{SectionKind}
use Rattle.refusal_place.specs.Kinds.{id_of}
use Rattle.refusal_place.specs.Places.{ComesTo, IsUnread}
use Rattle.refusal_place.specs.Contents.{IsContentsPlace, SectionHasNoContents}
use Rattle.refusal_place.specs.Entries.{IsEntryPlace, SectionHasNoEntry}
use Rattle.refusal_place.specs.EntryFound.{IsEntryInSection}
use Rattle.refusal_place.specs.declared.seek.FoundContents.{FoundContents}
use Rattle.refusal_place.specs.Sought.{AreContentsIn, IsSectionAt, IsSectionFound}
use Rattle.refusal_place.specs.Found.{IsPassed}
use Rattle.refusal_place.proofs.IdLaws.{id_read}
use Rattle.refusal_place.proofs.Located.{bytes_from, from_is}
use Rattle.refusal_place.proofs.Passing.{sections_more, order_more, is_unread}

all_more : (Q : Payload → Type 0) (before : Module) (p : Payload) → All Q before → Q p → All Q (before ++ p ∷ [])
all_more Q [] p all is = All-cons Q p [] is (All-nil Q)
all_more Q (q ∷ qs) p all is = All-cons Q q (qs ++ p ∷ []) (All-head Q q qs all) (all_more Q qs p (All-tail Q q qs all) is)

-- the sections before were read, and none is of the kind
pub record IsSoughtTo (k : SectionKind) (bytes : List ℕ) (start next : ℕ) (rest : List ℕ) : Type 0 where
  pub comes : ComesTo bytes start next rest
  pub none : All (λ p. section_id p ≢ id_of k) comes.before

sought_more : (k : SectionKind) (bytes : List ℕ) (start next : ℕ) (rest : List ℕ) (p : Payload) (later : List ℕ) → IsSoughtTo k bytes start next rest
    → (section start next).read rest ≡ Ok (p, later) → section_id p ≢ id_of k
    → IsSoughtTo k bytes (start + (length rest - length later)) (next_order next p) later
sought_more k bytes start next rest p later r e other =
    let c = r.comes in
    let f = (section start next).agrees.found rest p later e in
    let s = taken_spells start next f.0 p f.2 in
    let is : (grammar.section (8 + length c.front) (order_after_all 0 c.before)).spells f.0 p =
    let P : ℕ → ℕ → Type 0 = λ m n. (grammar.section m n).spells f.0 p in
    let Q : ℕ → Type 0 = λ m. P m next in
    subst (P (8 + length c.front)) c.next_is (subst Q c.start_is s.0) in
    record {
      comes = record {
        before = c.before ++ p ∷ [];
        front = c.front ++ f.0;
        parts = c.parts ∙ ap (λ (l : List ℕ). header ++ l) (ap (λ (l : List ℕ). c.front ++ l) f.1 ∙ sym (append_assoc c.front f.0 later));
        are_sections = sections_more c.before 8 0 c.front f.0 p c.are_sections is;
        start_is = omega (arith, c.start_is, ap length f.1, length-append f.0 later, length-append c.front f.0);
        next_is = ap (λ (n : ℕ). next_order n p) c.next_is ∙ sym (order_more c.before 0 p);
      };
      none = all_more (λ q. section_id q ≢ id_of k) c.before p r.none other;
    }

front_of : (bytes : List ℕ) (start : ℕ) → start < length bytes → drop start bytes ≡ get_or bytes start 0 ∷ drop (suc start) bytes
front_of [] start l = absurd (omega arith)
front_of (b ∷ bytes) zero l = refl
front_of (b ∷ bytes) (suc start) l = front_of bytes start (omega arith)

pub sought_header : (k : SectionKind) (bytes : List ℕ) → starts_with nat_eq bytes header ≡ true → IsSoughtTo k bytes 8 0 (bytes_from bytes 8)
sought_header k bytes t =
    let parts : bytes ≡ header ++ drop 8 bytes = (starts_is Decides-eqb bytes header (starts_with nat_eq bytes header) refl).0 t in
    record {
      comes = record {
        before = [];
        front = [];
        parts = parts ∙ ap (λ (l : List ℕ). header ++ l) (sym (from_is bytes 8));
        are_sections = refl;
        start_is = refl;
        next_is = refl;
      };
      none = All-nil (λ p. section_id p ≢ id_of k);
    }

module _ (k : SectionKind) (bytes : List ℕ) (start next : ℕ) (some : start < length bytes) (r : IsSoughtTo k bytes start next (bytes_from bytes start)) where
  front : bytes_from bytes start ≡ get_or bytes start 0 ∷ bytes_from bytes (start + 1)
  front =
      let one : suc start ≡ start + 1 = omega arith in
      from_is bytes start ∙ front_of bytes start some
      ∙ ap (λ (l : List ℕ). get_or bytes start 0 ∷ l) (ap (λ (n : ℕ). drop n bytes) one ∙ sym (from_is bytes (start + 1)))

  left : length (bytes_from bytes start) ≡ length bytes - start
  left = ap length (from_is bytes start) ∙ length-drop start bytes

  pub one_more : (after count : ℕ) → get_or bytes start 0 ≢ id_of k → IsPassed start next after (bytes_from bytes start) (Some count)
      → (start + count ≤ length bytes) × IsSoughtTo k bytes (start + count) after (bytes_from bytes (start + count)) × (0 < count)
  one_more after count not (p, read, order, some, fits) =
      let rest = bytes_from bytes start in
      let id = id_read start next (get_or bytes start 0) (bytes_from bytes (start + 1)) (drop count rest) p (ap (section start next).read (sym front) ∙ read) in
      let more = sought_more k bytes start next rest p (drop count rest) r read (λ e. not (sym id ∙ e)) in
      let far : start + (length rest - length (drop count rest)) ≡ start + count = omega (arith, left, fits, length-drop count rest) in
      let same : drop count rest ≡ bytes_from bytes (start + count) =
      ap (drop count) (from_is bytes start) ∙ drop-drop count start bytes ∙ sym (from_is bytes (start + count)) in
      let P : ℕ → ℕ → Type 0 = λ m n. IsSoughtTo k bytes m n (drop count rest) in
      let there : IsSoughtTo k bytes (start + count) after (drop count rest) =
      let Q : ℕ → Type 0 = λ m. P m (next_order next p) in
      subst (P (start + count)) (sym order) (subst Q far more) in (
        omega (arith, left, fits),
        subst (IsSoughtTo k bytes (start + count) after) same there,
        some,
      )

  pub found_at : get_or bytes start 0 ≡ id_of k → length bytes < 2 ^ 30 → IsSectionFound bytes k (Some start)
  found_at id small =
      let after : bytes_from bytes start ≡ id_of k ∷ drop (start + 1) bytes =
      front ∙ ap (λ (b : ℕ). b ∷ bytes_from bytes (start + 1)) id ∙ ap (λ (l : List ℕ). id_of k ∷ l) (from_is bytes (start + 1)) in
      let there = subst (IsSoughtTo k bytes start next) after r in
      record { next = next; comes_to = there.comes; none_before = there.none; within = some; short = small }

  pub stopped_at : (after : ℕ) → IsPassed start next after (bytes_from bytes start) None → IsSectionFound bytes k None
  stopped_at after (unread, same) = inr (inr (record {
    start = start;
    next = next;
    rest = bytes_from bytes start;
    comes_to = r.comes;
    none_before = r.none;
    why = inr (is_unread start next (bytes_from bytes start) unread.0 unread.1);
  }))

pub ended_at : (k : SectionKind) (bytes : List ℕ) (start next : ℕ) → IsSoughtTo k bytes start next (bytes_from bytes start) → length bytes ≤ start
    → IsSectionFound bytes k None
ended_at k bytes start next r l =
    let e : bytes_from bytes start ≡ [] = nil_from_length (bytes_from bytes start) (omega (arith, ap length (from_is bytes start), length-drop start bytes)) in
    inr (inr (record {
      start = start;
      next = next;
      rest = bytes_from bytes start;
      comes_to = r.comes;
      none_before = r.none;
      why = inl e;
    }))

-- ---- what is found in the section that is found

pub unsought_entry : (k : SectionKind) (bytes : List ℕ) (entry : ℕ) → IsSectionFound bytes k None → IsEntryPlace bytes k entry None
unsought_entry k bytes entry (inl long) = inl long
unsought_entry k bytes entry (inr (inl other)) = inr (inl other)
unsought_entry k bytes entry (inr (inr u)) = inr (inr (record {
  start = u.start;
  next = u.next;
  rest = u.rest;
  comes_to = u.comes_to;
  none_before = u.none_before;
  why = why u.why;
})) where
  why : (u.rest ≡ []) ⊎ IsUnread (grammar.section u.start u.next) u.rest
      → (u.rest ≡ []) ⊎ (IsUnread (grammar.section u.start u.next) u.rest ⊎ SectionHasNoEntry k u.rest entry)
  why (inl empty) = inl empty
  why (inr unread) = inr (inl unread)

pub unsought_contents : (k : SectionKind) (bytes : List ℕ) → IsSectionFound bytes k None → IsContentsPlace bytes k None
unsought_contents k bytes (inl long) = inl long
unsought_contents k bytes (inr (inl other)) = inr (inl other)
unsought_contents k bytes (inr (inr u)) = inr (inr (record {
  start = u.start;
  next = u.next;
  rest = u.rest;
  comes_to = u.comes_to;
  none_before = u.none_before;
  why = why u.why;
})) where
  why : (u.rest ≡ []) ⊎ IsUnread (grammar.section u.start u.next) u.rest
      → (u.rest ≡ []) ⊎ (IsUnread (grammar.section u.start u.next) u.rest ⊎ SectionHasNoContents k u.rest)
  why (inl empty) = inl empty
  why (inr unread) = inr (inl unread)

module _ (k : SectionKind) (bytes : List ℕ) (start : ℕ) (a : IsSectionAt bytes k start) where
  -- what the calls take as the bytes from the id on
  abbrev taken : List ℕ
  taken = id_of k ∷ bytes_from bytes (start + 1)

  same : taken ≡ id_of k ∷ drop (start + 1) bytes
  same = ap (λ (l : List ℕ). id_of k ∷ l) (from_is bytes (start + 1))

  pub taken_long : length taken ≡ length bytes - start
  taken_long = omega (arith, ap length (from_is bytes (start + 1)), length-drop (start + 1) bytes, a.within)

  record Comes : Type 0 where
    comes : ComesTo bytes start a.next taken
    none : All (λ p. section_id p ≢ id_of k) comes.before

  comes_to : Comes
  comes_to =
      let P : List ℕ → Type 0 = λ l. IsSoughtTo k bytes start a.next l in
      let s : IsSoughtTo k bytes start a.next (id_of k ∷ drop (start + 1) bytes) = record { comes = a.comes_to; none = a.none_before } in
      let t = subst P (sym same) s in
      record { comes = t.comes; none = t.none }

  pub entry_at : (entry distance : ℕ) → IsEntryInSection k taken entry (Some distance) → IsEntryPlace bytes k entry (Some (start + distance))
  entry_at entry distance is = record {
    start = start;
    next = a.next;
    rest = taken;
    contents = is.contents;
    before = is.before;
    offset = is.offset;
    comes_to = comes_to.comes;
    has = is.has;
    entry_is = is.entry_is;
    byte_is = omega (arith, is.distance_is);
  }

  pub no_entry_at : (entry : ℕ) → IsEntryInSection k taken entry None → IsEntryPlace bytes k entry None
  no_entry_at entry is = inr (inr (record {
    start = start;
    next = a.next;
    rest = taken;
    comes_to = comes_to.comes;
    none_before = comes_to.none;
    why = inr (inr is);
  }))

  pub contents_at : (found : FoundContents) → AreContentsIn k taken (Some found) → IsContentsPlace bytes k (Some (start + found.before))
  contents_at found is = record {
    start = start;
    next = a.next;
    rest = taken;
    contents = found.contents.now;
    before = found.before;
    comes_to = comes_to.comes;
    none_before = comes_to.none;
    has = is.has;
    byte_is = refl;
  }

  pub no_contents_at : AreContentsIn k taken None → IsContentsPlace bytes k None
  no_contents_at is = inr (inr (record {
    start = start;
    next = a.next;
    rest = taken;
    comes_to = comes_to.comes;
    none_before = comes_to.none;
    why = inr (inr is);
  }))
