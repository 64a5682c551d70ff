-- What the readers say of the contents of a section, by the grammar.
use Rattle.std.proofs.Common.{◌≡◌, ℕ, List, ◌++◌, length, Option, Some, None, Result, Ok, Err, Bool, true, false, cond, refl, ap, subst, ◌∙◌, arith, inl, inr}
use Rattle.std.specs.Prelude.{◌⊎◌, IfOk}
use Rattle.std.proofs.lemmas.List.{length-append}
use Rattle.wasm_spec.specs.declared.operators.What.{What}
use Rattle.wasm_spec.specs.declared.operators.What.TheVariants as what
use Rattle.wasm_spec.specs.Module.{Custom}
use Rattle.wasm_spec.specs.Parts as part
use Rattle.wasm_spec.specs.Parts.{Part}
use Rattle.wasm_spec.specs.Grammar.{name, custom_contents}
use Rattle.form_reader.specs.declared.error.ReadError.{ReadError}
use Rattle.form_reader.specs.declared.error.ReadError.TheVariants as errors
use Rattle.form_reader.specs.Reading.{Bad, Stops, Fails, Reader, whole}
use Rattle.form_reader.specs.ReadingNumbers.{unsigned_at, name_at}
use Rattle.form_reader.specs.Agrees.{Agrees, ok, err, ok_not_err, elements_agree, whole_fills}
use Rattle.form_reader.specs.NumberLaws.{unsigned_agrees}
use Rattle.form_reader.specs.SectionRows.{name_agrees, is_interface_name, interface_is}
use Rattle.refusal_place.specs.declared.contents.ContentsFault.{ContentsFault}
use Rattle.refusal_place.specs.declared.kind.SectionKind.{SectionKind}
use Rattle.refusal_place.specs.declared.kind.SectionKind.TheVariants as kind
use Rattle.refusal_place.specs.declared.place.Fault.{Fault}
use Rattle.refusal_place.specs.declared.place.Fault.TheVariants as fault
use Rattle.refusal_place.specs.Found.{AreUnread, IsNoNumber, IsEntriesFault, IsFirstUnread, LeavesBytes, ReadsUpTo, Shortens}
use Rattle.refusal_place.specs.Kinds.{OfEntries}
use Rattle.refusal_place.specs.Places.{IsUnspelled, ListsEntries, IsFirstUnspelled, IsFirstStopped, HasRemainder, IsInContents}

module _ {A : Type 0} (read : Reader A) (g : Part A) (a : Agrees read g) where
  pub shortens : Shortens read
  shortens = record {
    shorter = λ bytes x rest e. let f = a.found bytes x rest e in omega (arith, ap length f.1, length-append f.0 rest);
  }

  -- what is not read is not spelled
  pub unspelled : (bytes : List ℕ) → read bytes ≡ Err Bad → (front rest : List ℕ) (x : A) → bytes ≡ front ++ rest → ¬ g.spells front x
  unspelled bytes e front rest x parts s =
      let is_read : read bytes ≡ Ok (x, rest) = rw parts (a.again front x rest s) in
      absurd cc

  pub lists : (contents : List ℕ) (entry offset count : ℕ) (rest : List ℕ) → ReadsUpTo read contents entry offset count rest
      → ListsEntries g contents entry offset count rest
  lists contents entry offset count rest u =
      let n = (unsigned_agrees 32).found contents count u.first u.counts in
      let b = (elements_agree a entry).found u.first u.entries rest u.before in record {
        number = n.0;
        front = b.0;
        entries = u.entries;
        parts = n.1 ∙ ap (λ (l : List ℕ). n.0 ++ l) b.1;
        counts = n.2;
        before = b.2;
        offset_is = omega (arith, u.offset_is, ap length n.1, length-append n.0 u.first, ap length b.1, length-append b.0 rest);
      }

  first_unspelled : (contents : List ℕ) (entry offset : ℕ) → IsFirstUnread Bad read contents entry offset → IsFirstUnspelled g contents entry offset
  first_unspelled contents entry offset u = record {
    count = u.count;
    rest = u.rest;
    lists = lists contents entry offset u.count u.rest u.up_to;
    listed = u.listed;
    unspelled = unspelled u.rest u.unread;
  }

  first_stopped : (w : What) (contents : List ℕ) (entry offset : ℕ) → IsFirstUnread (Stops w) read contents entry offset
      → IsFirstStopped w g contents entry offset
  first_stopped w contents entry offset u = record {
    count = u.count;
    rest = u.rest;
    lists = lists contents entry offset u.count u.rest u.up_to;
    listed = u.listed;
    stops = a.stopped u.rest w u.unread;
  }

  remainder : (contents : List ℕ) (offset : ℕ) → LeavesBytes read contents offset → HasRemainder g contents offset
  remainder contents offset u = record {
    count = u.count;
    rest = u.rest;
    lists = lists contents u.count offset u.count u.rest u.up_to;
    left = u.left;
  }

-- no number is there
pub no_number : (bytes : List ℕ) → unsigned_at 32 bytes ≡ Err Bad → IsUnspelled (part.unsigned 32) bytes
no_number bytes e = unspelled (unsigned_at 32) (part.unsigned 32) (unsigned_agrees 32) bytes e

module _ {A : Type 0} (read : Reader A) (g : Part A) (a : Agrees read g) (k : SectionKind)
    (of : (P : (B : Type 0) → Part B → Type 0) → P A g → OfEntries k P) where
  -- what is wrong with a list of entries is wrong with the contents of a section that lists them
  pub wrong_entries : (contents : List ℕ) (f : Fault) (entry : Option ℕ) (offset : ℕ) → IsEntriesFault read contents f entry offset
      → IsInContents f k contents entry offset
  wrong_entries contents fault.Header entry offset u = absurd u
  wrong_entries contents (fault.UnknownSection id) entry offset u = absurd u
  wrong_entries contents fault.SectionOrder entry offset u = absurd u
  wrong_entries contents fault.SectionSize entry offset u = absurd u
  wrong_entries contents (fault.SectionEnd end) entry offset u = absurd u
  wrong_entries contents fault.Number entry offset u = absurd u
  wrong_entries contents fault.Name entry offset u = absurd u
  wrong_entries contents fault.Count None offset u = (of (λ B p. IsUnspelled (part.unsigned 32) contents) (no_number contents u.0), u.1)
  wrong_entries contents fault.Count (Some entry) offset u = absurd u
  wrong_entries contents fault.Entry None offset u = absurd u
  wrong_entries contents fault.Entry (Some entry) offset u =
      of (λ B p. IsFirstUnspelled p contents entry offset) (first_unspelled read g a contents entry offset u)
  wrong_entries contents fault.Remainder None offset u = of (λ B p. HasRemainder p contents offset) (remainder read g a contents offset u)
  wrong_entries contents fault.Remainder (Some entry) offset u = absurd u
  wrong_entries contents (fault.Unsupported w) None offset u = absurd u
  wrong_entries contents (fault.Unsupported w) (Some entry) offset u =
      of (λ B p. IsFirstStopped w p contents entry offset) (first_stopped read g a w contents entry offset u)

  -- the same of what a function returned
  pub found_in : {E : Type 0} (l : SectionKind) (contents : List ℕ) (r : Result ContentsFault E) → k ≡ l
      → IfOk r (λ found. IsEntriesFault read contents found.fault found.entry found.offset)
      → IfOk r (λ found. IsInContents found.fault l contents found.entry found.offset)
  found_in l contents (Ok found) same u =
      subst (λ m. IsInContents found.fault m contents found.entry found.offset) same
      (wrong_entries contents found.fault found.entry found.offset u)
  found_in l contents (Err e) same u = tt

-- ---- sections that hold one number

no_number_alone : (contents : List ℕ) → IsNoNumber contents → (n : ℕ) → ¬ (part.unsigned 32).spells contents n
no_number_alone contents (f, e) n s =
    let is_read : whole (unsigned_at 32) contents ≡ Ok n = (whole_fills (unsigned_agrees 32)).again contents n s in
    absurd cc

pub wrong_number : (k : SectionKind) (contents : List ℕ) (found : ContentsFault) → (k ≡ kind.Start) ⊎ (k ≡ kind.DataCount) → AreUnread k contents
    → (found.fault ≡ fault.Number) × (found.entry ≡ None) × (found.offset ≡ 0) → IsInContents found.fault k contents found.entry found.offset
wrong_number k contents found (inl is) u e = rw (is, e.0, e.1) (no_number_alone contents (rw is at u), e.2)
wrong_number k contents found (inr is) u e = rw (is, e.0, e.1) (no_number_alone contents (rw is at u), e.2)

-- ---- custom sections

pub no_name : (bytes : List ℕ) (e : ReadError) → e ≡ errors.Malformed → Fails e (name_at bytes) → IsUnspelled name bytes
no_name bytes e is f = unspelled name_at name name_agrees bytes (subst (λ d. Fails d (name_at bytes)) is f)

-- a name does not stop
pub name_never_stops : (bytes : List ℕ) (e : ReadError) (w : What) → e ≡ errors.Unsupported w → Fails e (name_at bytes) → IsUnspelled name bytes
name_never_stops bytes e w is f = absurd (never (name_agrees.stopped bytes w (subst (λ d. Fails d (name_at bytes)) is f))) where
  never : name.stops bytes w → ⊥
  never (inl s) = s
  never (inr s) = s.stops_second

-- the name is read, so it is one of interface types
pub stops_after_name : (contents : List ℕ) (n rest : List ℕ) → name_at contents ≡ Ok (n, rest) → AreUnread kind.Custom contents
    → custom_contents.stops contents what.InterfaceTypes
stops_after_name contents n rest e (f, u) =
    let is = name_agrees.found contents n rest e in
    inr (record {
      value = n;
      front = is.0;
      back = rest;
      parts = is.1;
      is_first = is.2;
      stops_second = (interface_is n (by_test (is_interface_name n) (rw e at u)), refl);
    })
  where
    by_test : (t : Bool) → cond t (err (Stops what.InterfaceTypes)) (ok (Custom n rest)) ≡ Err f → t ≡ true
    by_test true g = refl
    by_test false g = absurd (ok_not_err (Custom n rest) f g)
