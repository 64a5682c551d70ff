-- Sections one after another, as a loop lists them.
use Rattle.std.proofs.Common.{◌≡◌, ℕ, ◌+◌, ◌-◌, ◌<◌, ◌≤◌, ◌^◌, List, [], ◌∷◌, ◌++◌, length, drop, true, refl, sym, ap, subst, ◌∙◌, append_assoc, arith}
use Rattle.std.specs.Prelude.{nat_eq}
use Rattle.std.specs.List.{starts_with}
use Rattle.std.proofs.lemmas.Bool.Decides.{Decides-eqb}
use Rattle.std.proofs.lemmas.Slice.Eq.{starts_is}
use Rattle.std.proofs.lemmas.List.{append-nil, length-append, length-drop, drop-drop, drop_at}
use Rattle.wasm_spec.specs.Grammar.{header}
use Rattle.refusal_place.specs.declared.section_list.SectionPlace.{SectionPlace}
use Rattle.refusal_place.specs.SectionList.{AreSections, HasNoSection, IsSection, IsSectionList}
use Rattle.refusal_place.proofs.Located.{bytes_from, from_is}
use Rattle.refusal_place.proofs.Passing.{after_header}

pub header_is : (bytes : List ℕ) → starts_with nat_eq bytes header ≡ true → bytes ≡ header ++ drop 8 bytes
header_is bytes t = (starts_is Decides-eqb bytes header (starts_with nat_eq bytes header) refl).0 t

-- the sections before the offset are listed
pub record AreListed (bytes : List ℕ) (start : ℕ) (places : List SectionPlace) : Type 0 where
  pub within : start ≤ length bytes
  pub then : (later : List SectionPlace) → AreSections start (bytes_from bytes start) later → AreSections 8 (bytes_from bytes 8) (places ++ later)

pub none_listed : (bytes : List ℕ) → starts_with nat_eq bytes header ≡ true → AreListed bytes 8 []
none_listed bytes t = record {
  within = omega (arith, ap length (header_is bytes t), length-append header (drop 8 bytes));
  then = λ later are. are;
}

module _ (bytes : List ℕ) (start : ℕ) (within : start ≤ length bytes) (p : SectionPlace) (later : List ℕ)
    (s : IsSection start (bytes_from bytes start) p later) where
  left : length (bytes_from bytes start) ≡ length bytes - start
  left = ap length (from_is bytes start) ∙ length-drop start bytes

  abbrev front : List ℕ
  front = p.id ∷ (s.number ++ s.contents)

  parts : bytes_from bytes start ≡ front ++ later
  parts = s.parts ∙ ap (λ (l : List ℕ). p.id ∷ l) (sym (append_assoc s.number s.contents later))

  end : p.contents + p.size ≡ start + length front
  end = omega (arith, s.places.1, s.places.2, length-append s.number s.contents)

  -- the section is in the input
  pub end_within : p.contents + p.size ≤ length bytes
  end_within = omega (arith, end, left, within, ap length parts, length-append front later)

  pub end_further : start < p.contents + p.size
  end_further = omega (arith, end)

  later_is : later ≡ bytes_from bytes (p.contents + p.size)
  later_is =
      sym (drop_at front later (length front) refl) ∙ ap (drop (length front)) (sym parts ∙ from_is bytes start)
      ∙ drop-drop (length front) start bytes ∙ ap (λ (n : ℕ). drop n bytes) (sym end) ∙ sym (from_is bytes (p.contents + p.size))

  pub one_listed : (places : List SectionPlace) → AreListed bytes start places → AreListed bytes (p.contents + p.size) (places ++ p ∷ [])
  one_listed places listed = record {
    within = end_within;
    then = λ more are.
        let P : List SectionPlace → Type 0 = λ l. AreSections 8 (bytes_from bytes 8) l in
        let there = let Q : List ℕ → Type 0 = λ l. AreSections (p.contents + p.size) l more in subst Q (sym later_is) are in
        subst P (sym (append_assoc places (p ∷ []) more)) (listed.then (p ∷ more) (later, s, there));
  }

pub all_listed : (bytes : List ℕ) (start : ℕ) (places : List SectionPlace) → starts_with nat_eq bytes header ≡ true → length bytes < 2 ^ 30
    → AreListed bytes start places → HasNoSection (bytes_from bytes start) → IsSectionList bytes places
all_listed bytes start places t short listed none = record {
  sections = λ rest is fits.
      let same : bytes_from bytes 8 ≡ rest = from_is bytes 8 ∙ after_header (drop 8 bytes) rest (sym (header_is bytes t) ∙ is) in
      let P : List SectionPlace → Type 0 = λ l. AreSections 8 (bytes_from bytes 8) l in
      let Q : List ℕ → Type 0 = λ l. AreSections 8 l places in
      subst Q same (subst P (append-nil places) (listed.then [] none));
  no_header = λ other. absurd (other (drop 8 bytes) (header_is bytes t));
  too_long = λ long. absurd (omega (arith, short, long));
}
