-- What is wrong after the id of a section, as a place says it.
use Rattle.std.proofs.Common.{◌≡◌, ℕ, ◌+◌, ◌-◌, ◌<◌, ◌≤◌, List, ◌∷◌, ◌++◌, length, take, drop, Option, Some, None, Ok, Err, cond, leb, refl, sym, ap, subst, ◌∙◌, arith, inl, inr}
use Rattle.std.specs.Prelude.{IfSome}
use Rattle.std.proofs.lemmas.Bool.{cases_Bool, leb-true, leb-false}
use Rattle.std.proofs.lemmas.List.{length-append, length-take, take-append-drop}
use Rattle.wasm_spec.specs.declared.operators.What.{What}
use Rattle.wasm_spec.specs.Parts.{Part}
use Rattle.wasm_spec.specs.Numbers.{SpellsUnsigned}
use Rattle.form_reader.specs.Reading.{Fault as ReadFault}
use Rattle.form_reader.specs.ReadingNumbers.{unsigned_at}
use Rattle.form_reader.specs.NumberLaws.{unsigned_agrees}
use Rattle.refusal_place.specs.declared.kind.SectionKind.{SectionKind}
use Rattle.refusal_place.specs.declared.kind.SectionKind.TheVariants as kind
use Rattle.refusal_place.specs.declared.place.Fault.{Fault}
use Rattle.refusal_place.specs.declared.place.Fault.TheVariants as fault
use Rattle.refusal_place.specs.declared.place.Place.{Place}
use Rattle.refusal_place.specs.Kinds.{id_of, OfEntries}
use Rattle.refusal_place.specs.Places.{IsInContents, HasWrongContents, IsOpenWhereItEnds, EndsInside, IsWrong, ListsEntries, IsFirstUnspelled, IsFirstStopped, HasRemainder}
use Rattle.refusal_place.specs.Found.{after_id_at, AreUnread, IsDecidedAfter, IsAfterId, place_of_size, place_of_cut}
use Rattle.refusal_place.proofs.AfterId.{judged, no_number, size_decides, contents_decide}

-- ---- the size

size_decided : (start : ℕ) (k : SectionKind) (sized : List ℕ) (f : ReadFault) → unsigned_at 32 sized ≡ Err f
    → IfSome (cond (leb 5 (length sized)) (Some (start + 6)) None) (IsDecidedAfter start (id_of k) sized)
size_decided start k sized f e = elim (cases_Bool (leb 5 (length sized))) [
  | inl t ↦ rw t (size_decides start k sized f (leb-true _ _ t) e)
  | inr t ↦ rw t tt
]

size_open : (start : ℕ) (k : SectionKind) (sized : List ℕ) → IsOpenWhereItEnds (start + (1 + length sized)) (place_of_size k sized start)
size_open start k sized = elim (cases_Bool (leb 5 (length sized))) [
  | inl t ↦ rw t ((λ e. absurd cc), λ l. absurd (omega (arith, l, leb-true _ _ t)))
  | inr t ↦ rw t ((λ e. omega (arith, leb-false _ _ t)), λ l. refl)
]

pub size_is_wrong : (start : ℕ) (k : SectionKind) (sized : List ℕ) (f : ReadFault) → unsigned_at 32 sized ≡ Err f
    → IsAfterId start k sized (place_of_size k sized start)
size_is_wrong start k sized f e = record {
  starts = refl;
  wrong = λ next. record {
    section = k;
    after = sized;
    parts = refl;
    unspelled = no_number sized f e;
    section_is = (refl, refl);
    byte_is = refl;
  };
  within = omega arith;
  decided = size_decided start k sized f e;
  early = size_open start k sized;
}

-- ---- where the fault is in the contents

pub lists_within : {A : Type 0} (part : Part A) (contents : List ℕ) (entry offset count : ℕ) (rest : List ℕ) → ListsEntries part contents entry offset count rest
    → offset ≤ length contents
lists_within part contents entry offset count rest l =
    omega (arith, l.offset_is, ap length l.parts, length-append l.number (l.front ++ rest), length-append l.front rest)

pub of_entries : (k : SectionKind) (P : (A : Type 0) → Part A → Type 0) (Q : Type 0) → ((A : Type 0) (part : Part A) → P A part → Q) → OfEntries k P → Q
of_entries kind.Type P Q h p = h _ _ p
of_entries kind.Import P Q h p = h _ _ p
of_entries kind.Function P Q h p = h _ _ p
of_entries kind.Table P Q h p = h _ _ p
of_entries kind.Memory P Q h p = h _ _ p
of_entries kind.Tag P Q h p = h _ _ p
of_entries kind.Global P Q h p = h _ _ p
of_entries kind.Export P Q h p = h _ _ p
of_entries kind.Element P Q h p = h _ _ p
of_entries kind.Code P Q h p = h _ _ p
of_entries kind.Data P Q h p = h _ _ p
of_entries kind.Custom P Q h p = absurd p
of_entries kind.Start P Q h p = absurd p
of_entries kind.DataCount P Q h p = absurd p

-- a fault of a section that lists nothing is at the start of its contents
number_within : (k : SectionKind) (contents : List ℕ) (entry : Option ℕ) (offset : ℕ) → IsInContents fault.Number k contents entry offset
    → offset ≤ length contents
number_within kind.Custom contents entry offset p = absurd p
number_within kind.Type contents entry offset p = absurd p
number_within kind.Import contents entry offset p = absurd p
number_within kind.Function contents entry offset p = absurd p
number_within kind.Table contents entry offset p = absurd p
number_within kind.Memory contents entry offset p = absurd p
number_within kind.Global contents entry offset p = absurd p
number_within kind.Export contents entry offset p = absurd p
number_within kind.Start contents None offset p = omega (arith, p.1)
number_within kind.Start contents (Some entry) offset p = absurd p
number_within kind.Element contents entry offset p = absurd p
number_within kind.Code contents entry offset p = absurd p
number_within kind.Data contents entry offset p = absurd p
number_within kind.DataCount contents None offset p = omega (arith, p.1)
number_within kind.DataCount contents (Some entry) offset p = absurd p
number_within kind.Tag contents entry offset p = absurd p

name_within : (k : SectionKind) (contents : List ℕ) (entry : Option ℕ) (offset : ℕ) → IsInContents fault.Name k contents entry offset
    → offset ≤ length contents
name_within kind.Custom contents None offset p = omega (arith, p.1)
name_within kind.Custom contents (Some entry) offset p = absurd p
name_within kind.Type contents entry offset p = absurd p
name_within kind.Import contents entry offset p = absurd p
name_within kind.Function contents entry offset p = absurd p
name_within kind.Table contents entry offset p = absurd p
name_within kind.Memory contents entry offset p = absurd p
name_within kind.Global contents entry offset p = absurd p
name_within kind.Export contents entry offset p = absurd p
name_within kind.Start contents entry offset p = absurd p
name_within kind.Element contents entry offset p = absurd p
name_within kind.Code contents entry offset p = absurd p
name_within kind.Data contents entry offset p = absurd p
name_within kind.DataCount contents entry offset p = absurd p
name_within kind.Tag contents entry offset p = absurd p

stop_within : (w : What) (k : SectionKind) (contents : List ℕ) (offset : ℕ) → IsInContents (fault.Unsupported w) k contents None offset
    → offset ≤ length contents
stop_within w kind.Custom contents offset p = omega (arith, p.1)
stop_within w kind.Type contents offset p = absurd p
stop_within w kind.Import contents offset p = absurd p
stop_within w kind.Function contents offset p = absurd p
stop_within w kind.Table contents offset p = absurd p
stop_within w kind.Memory contents offset p = absurd p
stop_within w kind.Global contents offset p = absurd p
stop_within w kind.Export contents offset p = absurd p
stop_within w kind.Start contents offset p = absurd p
stop_within w kind.Element contents offset p = absurd p
stop_within w kind.Code contents offset p = absurd p
stop_within w kind.Data contents offset p = absurd p
stop_within w kind.DataCount contents offset p = absurd p
stop_within w kind.Tag contents offset p = absurd p

-- a fault is within the contents
pub offset_within : (f : Fault) (k : SectionKind) (contents : List ℕ) (entry : Option ℕ) (offset : ℕ) → IsInContents f k contents entry offset
    → offset ≤ length contents
offset_within fault.Count k contents None offset p = omega (arith, p.1)
offset_within fault.Count k contents (Some entry) offset p = absurd p
offset_within fault.Entry k contents None offset p = absurd p
offset_within fault.Entry k contents (Some entry) offset p =
    of_entries k (λ A part. IsFirstUnspelled part contents entry offset) (offset ≤ length contents)
    (λ A part first. lists_within part contents entry offset first.count first.rest first.lists) p
offset_within (fault.Unsupported w) k contents None offset p = stop_within w k contents offset p
offset_within (fault.Unsupported w) k contents (Some entry) offset p =
    of_entries k (λ A part. IsFirstStopped w part contents entry offset) (offset ≤ length contents)
    (λ A part first. lists_within part contents entry offset first.count first.rest first.lists) p
offset_within fault.Remainder k contents None offset p =
    of_entries k (λ A part. HasRemainder part contents offset) (offset ≤ length contents)
    (λ A part left. lists_within part contents left.count offset left.count left.rest left.lists) p
offset_within fault.Remainder k contents (Some entry) offset p = absurd p
offset_within fault.Number k contents entry offset p = number_within k contents entry offset p
offset_within fault.Name k contents entry offset p = name_within k contents entry offset p
offset_within fault.Header k contents entry offset p = absurd p
offset_within (fault.UnknownSection id) k contents entry offset p = absurd p
offset_within fault.SectionOrder k contents entry offset p = absurd p
offset_within fault.SectionSize k contents entry offset p = absurd p
offset_within (fault.SectionEnd end) k contents entry offset p = absurd p

-- it is what is wrong with the section
wrong_contents : (f : Fault) (k : SectionKind) (contents : List ℕ) (entry : Option ℕ) (offset next : ℕ) (bytes : List ℕ) (p : Place)
    → IsInContents f k contents entry offset → HasWrongContents bytes p → IsWrong f next bytes p
wrong_contents fault.Count k contents entry offset next bytes p is has = has
wrong_contents fault.Entry k contents entry offset next bytes p is has = has
wrong_contents (fault.Unsupported w) k contents entry offset next bytes p is has = has
wrong_contents fault.Remainder k contents entry offset next bytes p is has = has
wrong_contents fault.Number k contents entry offset next bytes p is has = has
wrong_contents fault.Name k contents entry offset next bytes p is has = has
wrong_contents fault.Header k contents entry offset next bytes p is has = absurd is
wrong_contents (fault.UnknownSection id) k contents entry offset next bytes p is has = absurd is
wrong_contents fault.SectionOrder k contents entry offset next bytes p is has = absurd is
wrong_contents fault.SectionSize k contents entry offset next bytes p is has = absurd is
wrong_contents (fault.SectionEnd end) k contents entry offset next bytes p is has = absurd is

-- no fault of contents is an input that ends too early
contents_open : (f : Fault) (k : SectionKind) (contents : List ℕ) (entry : Option ℕ) (offset size byte : ℕ)
    → IsInContents f k contents entry offset → EndsInside f size byte → ⊥
contents_open fault.Header k contents entry offset size byte is ends = absurd is
contents_open fault.SectionSize k contents entry offset size byte is ends = absurd is
contents_open (fault.SectionEnd end) k contents entry offset size byte is ends = absurd is
contents_open fault.Count k contents entry offset size byte is ends = ends
contents_open fault.Entry k contents entry offset size byte is ends = ends
contents_open (fault.Unsupported w) k contents entry offset size byte is ends = ends
contents_open fault.Remainder k contents entry offset size byte is ends = ends
contents_open fault.Number k contents entry offset size byte is ends = ends
contents_open fault.Name k contents entry offset size byte is ends = ends
contents_open (fault.UnknownSection id) k contents entry offset size byte is ends = ends
contents_open fault.SectionOrder k contents entry offset size byte is ends = ends

-- ---- what follows the size

module _ (start : ℕ) (k : SectionKind) (sized : List ℕ) (size : ℕ) (rest : List ℕ) (read : unsigned_at 32 sized ≡ Ok (size, rest)) where
  abbrev found : (front : List ℕ) × (sized ≡ front ++ rest) × SpellsUnsigned 32 front size
  found = (unsigned_agrees 32).found sized size rest read

  -- the bytes of the size
  pub size_length : length sized ≡ length found.0 + length rest
  size_length = omega (arith, ap length found.1, length-append found.0 rest)

  pub cut_is_wrong : length rest < size
      → IsAfterId start k sized (place_of_cut k start (start + 1 + length sized) (start + 1 + (length sized - length rest) + size))
  cut_is_wrong short = record {
    starts = refl;
    wrong = λ next. record {
      section = k;
      number = found.0;
      after = rest;
      size = size;
      parts = ap (λ (l : List ℕ). id_of k ∷ l) found.1;
      size_is = found.2;
      short = short;
      end_is = omega (arith, size_length);
      section_is = (refl, refl);
      byte_is = omega arith;
    };
    within = omega arith;
    decided = tt;
    early = ((λ e. omega (arith, size_length, short)), λ l. refl);
  }

  -- ---- the contents

  module _ (fits : size ≤ length rest) where
    contents_long : length (take size rest) ≡ size
    contents_long = omega (arith, length-take size rest, fits)

    size_spelled : SpellsUnsigned 32 found.0 (length (take size rest))
    size_spelled = subst (SpellsUnsigned 32 found.0) (sym contents_long) found.2

    sized_parts : sized ≡ found.0 ++ (take size rest ++ drop size rest)
    sized_parts = found.1 ∙ ap (λ (l : List ℕ). found.0 ++ l) (sym (take-append-drop size rest))

    pub contents_unread : (f : ReadFault) → after_id_at start (id_of k) sized ≡ Err f → AreUnread k (take size rest)
    contents_unread f e = (judged found.0 (take size rest) size_spelled start k).0 (drop size rest) f (sym (ap (after_id_at start (id_of k)) sized_parts) ∙ e)

    pub contents_decided : AreUnread k (take size rest) → IsDecidedAfter start (id_of k) sized (start + 1 + (length sized - length rest) + size)
    contents_decided unread =
        subst (λ (l : List ℕ). IsDecidedAfter start (id_of k) l (start + 1 + (length sized - length rest) + size)) (sym sized_parts)
        (contents_decide start k found.0 (take size rest) (drop size rest) (start + 1 + (length sized - length rest) + size) size_spelled
        (omega (arith, size_length, contents_long)) unread)

    pub contents_wrong : (f : Fault) (entry : Option ℕ) (offset : ℕ) → AreUnread k (take size rest) → IsInContents f k (take size rest) entry offset
        → IsAfterId start k sized (record {
          section = Some k;
          section_start = start;
          entry = entry;
          byte = start + 1 + (length sized - length rest) + offset;
          fault = f;
          decided = Some (start + 1 + (length sized - length rest) + size);
        })
    contents_wrong f entry offset unread is = record {
      starts = refl;
      wrong = λ next. wrong_contents f k (take size rest) entry offset next (id_of k ∷ sized) _ is (record {
        section = k;
        contents = take size rest;
        start = 1 + length found.0;
        offset = offset;
        has = record {
          number = found.0;
          later = drop size rest;
          parts = ap (λ (l : List ℕ). id_of k ∷ l) sized_parts;
          size_is = size_spelled;
          offset_is = refl;
        };
        wrong = is;
        section_is = refl;
        byte_is = omega (arith, size_length);
      });
      within = omega (arith, size_length, contents_long, offset_within f k (take size rest) entry offset is);
      decided = contents_decided unread;
      early = ((λ e. absurd cc), λ ends. absurd (contents_open f k (take size rest) entry offset _ _ is ends));
    }
