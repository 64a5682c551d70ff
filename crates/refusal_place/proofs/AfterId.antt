-- What follows the id of a section.
use Rattle.std.proofs.Common.{◌≡◌, ℕ, zero, suc, ◌+◌, ◌-◌, ◌<◌, ◌≤◌, List, ◌∷◌, ◌++◌, length, take, drop, Option, Some, None, Result, Ok, Err, true, false, eqb, refl, sym, ap, ◌∙◌, append_assoc, arith, inl, inr}
use Rattle.std.specs.Prelude.{◌==◌, nat_le}
use Rattle.std.proofs.lemmas.Bool.{cases_Bool, eqb-true, ltb-true, ltb-false, le-leb, lt-leb}
use Rattle.std.proofs.lemmas.List.{length-append, length-take, take_at, take-append-drop, take-append-le, take-take}
use Rattle.wasm_spec.specs.Module.{Payload, Body, Types, Imports, FunctionTypes, Tables, Memories, Tags, Globals, Exports, Start, Elements, DataCount, Code, Segments}
use Rattle.wasm_spec.specs.Parts.{unsigned}
use Rattle.wasm_spec.specs.Numbers.{SpellsUnsigned}
use Rattle.wasm_spec.specs.Grammar.{order_of}
use Rattle.form_reader.specs.Reading as at
use Rattle.form_reader.specs.Reading.{Fault, Bad, Reader, Filler, and_then, whole, gives_at, raw_bytes_at, filled_at, fill_after, choose_at, nothing_at}
use Rattle.form_reader.specs.ReadingNumbers.{unsigned_at, vector_at, name_at, counted_bytes_at, sized_at}
use Rattle.form_reader.specs.Agrees.{ok_not_err, step_err, raw_bytes_agree}
use Rattle.form_reader.specs.NumberLaws.{unsigned_agrees, counted_bytes_agree}
use Rattle.form_reader.specs.MadeLaws.{measured_agrees}
use Rattle.form_reader.specs.TypeRows.{group, memory_type, tag_type}
use Rattle.form_reader.specs.SectionRows.{section, section_contents, code_at, placed_section_at, custom_after_at, import_entry, table_entry, global_entry, export_entry, element_segment, body, data_segment}
use Rattle.refusal_place.specs.declared.kind.SectionKind.{SectionKind}
use Rattle.refusal_place.specs.declared.kind.SectionKind.TheVariants as kind
use Rattle.refusal_place.specs.Kinds.{id_of, kind_of}
use Rattle.refusal_place.specs.Places.{IsUnspelled}
use Rattle.refusal_place.specs.Found.{after_id_at, misplaced, AreUnread, IsDecidedBy, IsDecidedAfter}

-- ---- contents that a size counts

-- where the reader reads a size and such contents, it fails as the contents do
record FailsAs {A B : Type 0} (number contents : List ℕ) (r : Reader A) (q : Filler B) : Type 0 where
  to : (later : List ℕ) (f : Fault) → r (number ++ (contents ++ later)) ≡ Err f → q contents ≡ Err f
  back : (later : List ℕ) (f : Fault) → q contents ≡ Err f → r (number ++ (contents ++ later)) ≡ Err f

module _ {B : Type 0} (q : Filler B) where
  abbrev beside : List ℕ × List ℕ → Result (B × List ℕ) Fault
  beside x = and_then (q x.0) (λ y. Ok (y, x.1))

  beside_fails : (contents later : List ℕ) (f : Fault) → beside (contents, later) ≡ Err f → q contents ≡ Err f
  beside_fails contents later f e = elim (step_err (q contents) (λ y. Ok (y, later)) f e) [
    | inl h ↦ h
    | inr (y, h, never) ↦ absurd (ok_not_err (y, later) f never)
  ]

module _ {B C : Type 0} (r : Reader B) (make : B → C) where
  made_fails : (bytes : List ℕ) (f : Fault) → (at.◌>>=◌ r (λ x. gives_at (make x))) bytes ≡ Err f → r bytes ≡ Err f
  made_fails bytes f e = elim (step_err (r bytes) (λ x. gives_at (make x.0) x.1) f e) [
    | inl h ↦ h
    | inr (x, h, never) ↦ absurd (ok_not_err (make x.0, x.1) f never)
  ]

module _ (number contents : List ℕ) (spells : SpellsUnsigned 32 number (length contents)) where
  counted : (later : List ℕ) → counted_bytes_at (number ++ (contents ++ later)) ≡ Ok (contents, later)
  counted later =
      ap counted_bytes_at (sym (append_assoc number contents later))
      ∙ counted_bytes_agree.again (number ++ contents) contents later
      (record { value = length contents; front = number; back = contents; parts = refl; is_first = spells; is_second = (refl, refl) })

  sized_fails : {B : Type 0} (q : Filler B) → FailsAs number contents (sized_at q) q
  unfolding sized_at
  sized_fails q = record {
    to = λ later f e. beside_fails q contents later f (sym (ap (λ r. and_then r (beside q)) (counted later)) ∙ e);
    back = λ later f e. rw (counted later, e) refl;
  }

  made_fails_as : {B C : Type 0} (q : Filler B) (make : B → C) → FailsAs number contents (at.◌>>=◌ (sized_at q) (λ x. gives_at (make x))) q
  made_fails_as q make = record {
    to = λ later f e. (sized_fails q).to later f (made_fails (sized_at q) make (number ++ (contents ++ later)) f e);
    back = λ later f e. rw ((sized_fails q).back later f e) refl;
  }

  raw_contents : (later : List ℕ) → raw_bytes_at (length contents) (contents ++ later) ≡ Ok (contents, later)
  raw_contents later = (raw_bytes_agree (length contents)).again contents contents later (refl, refl)

  abbrev bodies_at : Filler (List Body)
  bodies_at = whole (vector_at body.read)

  abbrev code_of : (place : ℕ) → List Body → Payload
  code_of place x = Code (place + length number) x

  code_inside : (place : ℕ) (later : List ℕ) → (code_at place).read (number ++ (contents ++ later))
      ≡ (at.◌>>=◌ (filled_at bodies_at (length contents)) (λ x. gives_at (code_of place x))) (contents ++ later)
  unfolding code_at
  code_inside place later = rw ((measured_agrees (unsigned_agrees 32)).again number (length contents, length number) (contents ++ later) (spells, refl)) refl

  code_fails : (place : ℕ) → FailsAs number contents (code_at place).read bodies_at
  code_fails place = record {
    to = λ later f e.
        let filled = made_fails (filled_at bodies_at (length contents)) (code_of place) (contents ++ later) f (sym (code_inside place later) ∙ e) in
        beside_fails bodies_at contents later f (sym (ap (λ r. and_then r (beside bodies_at)) (raw_contents later)) ∙ filled);
    back = λ later f e. code_inside place later ∙ rw (raw_contents later, e) refl;
  }

  -- why nothing is read is in the contents
  abbrev pub Judging : {A : Type 0} → Reader A → Type 0 → Type 0
  Judging r U = ((later : List ℕ) (f : Fault) → r (number ++ (contents ++ later)) ≡ Err f → U)
      × (U → (later : List ℕ) → (f : Fault) × (r (number ++ (contents ++ later)) ≡ Err f))

  judging : {A B : Type 0} (r : Reader A) (q : Filler B) → FailsAs number contents r q → Judging r ((f : Fault) × (q contents ≡ Err f))
  judging r q fails = (λ later f e. (f, fails.to later f e), λ u later. (u.0, fails.back later u.0 u.1))

  entries : {A : Type 0} (read : Reader A) (make : List A → Payload) → Judging
      (at.◌>>=◌ (sized_at (whole (vector_at read))) (λ x. gives_at (make x))) ((f : Fault) × (whole (vector_at read) contents ≡ Err f))
  entries read make = judging _ (whole (vector_at read)) (made_fails_as (whole (vector_at read)) make)

  number_only : (make : ℕ → Payload) → Judging
      (at.◌>>=◌ (sized_at (whole (unsigned_at 32))) (λ x. gives_at (make x))) ((f : Fault) × (whole (unsigned_at 32) contents ≡ Err f))
  number_only make = judging _ (whole (unsigned_at 32)) (made_fails_as (whole (unsigned_at 32)) make)

  pub judged : (start : ℕ) (k : SectionKind) → Judging (after_id_at start (id_of k)) (AreUnread k contents)
  unfolding section_contents
  judged start kind.Custom = judging _ (fill_after name_at custom_after_at) (sized_fails (fill_after name_at custom_after_at))
  judged start kind.Type = entries group.read Types
  judged start kind.Import = entries import_entry.read Imports
  judged start kind.Function = entries (unsigned_at 32) FunctionTypes
  judged start kind.Table = entries table_entry.read Tables
  judged start kind.Memory = entries memory_type.read Memories
  judged start kind.Global = entries global_entry.read Globals
  judged start kind.Export = entries export_entry.read Exports
  judged start kind.Start = number_only Start
  judged start kind.Element = entries element_segment.read Elements
  judged start kind.Code = judging _ (whole (vector_at body.read)) (code_fails (start + 1))
  judged start kind.Data = entries data_segment.read Segments
  judged start kind.DataCount = number_only DataCount
  judged start kind.Tag = entries tag_type.read Tags

-- ---- a size that is no number

pub no_size : (start : ℕ) (k : SectionKind) (bytes : List ℕ) (f : Fault) → unsigned_at 32 bytes ≡ Err f → after_id_at start (id_of k) bytes ≡ Err f
unfolding section_contents code_at sized_at counted_bytes_at
no_size start kind.Custom bytes f e = rw e refl
no_size start kind.Type bytes f e = rw e refl
no_size start kind.Import bytes f e = rw e refl
no_size start kind.Function bytes f e = rw e refl
no_size start kind.Table bytes f e = rw e refl
no_size start kind.Memory bytes f e = rw e refl
no_size start kind.Global bytes f e = rw e refl
no_size start kind.Export bytes f e = rw e refl
no_size start kind.Start bytes f e = rw e refl
no_size start kind.Element bytes f e = rw e refl
no_size start kind.Code bytes f e = rw e refl
no_size start kind.Data bytes f e = rw e refl
no_size start kind.DataCount bytes f e = rw e refl
no_size start kind.Tag bytes f e = rw e refl

pub no_number : (bytes : List ℕ) (f : Fault) → unsigned_at 32 bytes ≡ Err f → IsUnspelled (unsigned 32) bytes
no_number bytes f e = λ front rest n parts s.
    ok_not_err (n, rest) f (sym ((unsigned_agrees 32).again front n rest s) ∙ ap (unsigned_at 32) (sym parts) ∙ e)

-- five bytes decide
number_decided : (bytes more : List ℕ) (f : Fault) → 5 ≤ length bytes → unsigned_at 32 bytes ≡ Err f
    → (g : Fault) × (unsigned_at 32 (take 5 bytes ++ more) ≡ Err g)
number_decided bytes more f long e = by (unsigned_at 32 (take 5 bytes ++ more)) refl where
  by : (r : Result (ℕ × List ℕ) Fault) → unsigned_at 32 (take 5 bytes ++ more) ≡ r → (g : Fault) × (r ≡ Err g)
  by (Err g) h = (g, refl)
  by (Ok (n, rest)) h =
      let found = (unsigned_agrees 32).found (take 5 bytes ++ more) n rest h in
      let front = found.0 in
      let short : length front ≤ 5 = found.2.short in
      let five : length (take 5 bytes) ≡ 5 = omega (arith, length-take 5 bytes) in
      let first : take (length front) (take 5 bytes ++ more) ≡ take (length front) bytes =
      take-append-le (length front) (take 5 bytes) more (omega (arith, five)) ∙ take-take (length front) 5 bytes short in
      let is : front ≡ take (length front) bytes = sym (take_at front rest (length front) refl) ∙ ap (take (length front)) (sym found.1) ∙ first in
      let parts : bytes ≡ front ++ drop (length front) bytes =
      sym (take-append-drop (length front) bytes) ∙ ap (λ (l : List ℕ). l ++ drop (length front) bytes) (sym is) in
      absurd (no_number bytes f e front (drop (length front) bytes) n parts found.2)

take_five : (start : ℕ) → (start + 6) - (start + 1) ≡ 5
take_five start = omega arith

pub size_decides : (start : ℕ) (k : SectionKind) (sized : List ℕ) (f : Fault) → 5 ≤ length sized → unsigned_at 32 sized ≡ Err f
    → IsDecidedAfter start (id_of k) sized (start + 6)
size_decides start k sized f long e = (
  omega arith,
  λ more.
      let g = number_decided sized more f long e in
      (g.0, ap (λ n. after_id_at start (id_of k) (take n sized ++ more)) (take_five start) ∙ no_size start k (take 5 sized ++ more) g.0 g.1),
)

-- ---- contents that are not read

taken_contents : (number contents later more : List ℕ) (n : ℕ) → n ≡ length number + length contents
    → take n (number ++ (contents ++ later)) ++ more ≡ number ++ (contents ++ more)
taken_contents number contents later more n e =
    ap (λ (l : List ℕ). take n l ++ more) (sym (append_assoc number contents later))
    ∙ ap (λ (l : List ℕ). l ++ more) (take_at (number ++ contents) later n (length-append number contents ∙ sym e))
    ∙ append_assoc number contents more

pub contents_decide : (start : ℕ) (k : SectionKind) (number contents later : List ℕ) (end : ℕ) → SpellsUnsigned 32 number (length contents)
    → end ≡ start + 1 + length number + length contents → AreUnread k contents → IsDecidedAfter start (id_of k) (number ++ (contents ++ later)) end
contents_decide start k number contents later end spells at_end unread = (
  omega (arith, at_end),
  λ more.
      let f = (judged number contents spells start k).1 unread more in
      (f.0, ap (after_id_at start (id_of k)) (taken_contents number contents later more (end - (start + 1)) (omega (arith, at_end))) ∙ f.1),
)

-- ---- by the id

placed : (order next : ℕ) (r : Reader Payload) (bytes : List ℕ) → misplaced next (Some order) ≡ false
    → choose_at (nat_le next order) r nothing_at bytes ≡ r bytes
placed order next r bytes m = rw (le-leb next order (ltb-false order next m)) refl

pub read_after_id : (start next : ℕ) (k : SectionKind) (bytes : List ℕ) → misplaced next (order_of (id_of k)) ≡ false
    → (section start next).read (id_of k ∷ bytes) ≡ after_id_at start (id_of k) bytes
unfolding section
read_after_id start next kind.Custom bytes m = refl
read_after_id start next kind.Type bytes m = placed 0 next (section_contents (start + 1) 1).read bytes m
read_after_id start next kind.Import bytes m = placed 1 next (section_contents (start + 1) 2).read bytes m
read_after_id start next kind.Function bytes m = placed 2 next (section_contents (start + 1) 3).read bytes m
read_after_id start next kind.Table bytes m = placed 3 next (section_contents (start + 1) 4).read bytes m
read_after_id start next kind.Memory bytes m = placed 4 next (section_contents (start + 1) 5).read bytes m
read_after_id start next kind.Tag bytes m = placed 5 next (section_contents (start + 1) 13).read bytes m
read_after_id start next kind.Global bytes m = placed 6 next (section_contents (start + 1) 6).read bytes m
read_after_id start next kind.Export bytes m = placed 7 next (section_contents (start + 1) 7).read bytes m
read_after_id start next kind.Start bytes m = placed 8 next (section_contents (start + 1) 8).read bytes m
read_after_id start next kind.Element bytes m = placed 9 next (section_contents (start + 1) 9).read bytes m
read_after_id start next kind.DataCount bytes m = placed 10 next (section_contents (start + 1) 12).read bytes m
read_after_id start next kind.Code bytes m = placed 11 next (section_contents (start + 1) 10).read bytes m
read_after_id start next kind.Data bytes m = placed 12 next (section_contents (start + 1) 11).read bytes m

misplaced_fails : (start next id : ℕ) (o : Option ℕ) (bytes : List ℕ) → misplaced next o ≡ true → placed_section_at start next id o bytes ≡ Err Bad
misplaced_fails start next id None bytes m = absurd cc
misplaced_fails start next id (Some order) bytes m = rw (lt-leb next order (ltb-true order next m)) refl

pub misplaced_unread : (start next id : ℕ) (bytes : List ℕ) → misplaced next (order_of id) ≡ true → (section start next).read (id ∷ bytes) ≡ Err Bad
unfolding section
misplaced_unread start next id bytes m = elim (cases_Bool (id == 0)) [
  | inl t ↦ absurd (let e : misplaced next (order_of 0) ≡ true = rw (eqb-true id 0 t) at m in cc)
  | inr f ↦ rw f (misplaced_fails start next id (order_of id) bytes m)
]

pub id_decides : (start next id : ℕ) (sized : List ℕ) → ((bytes : List ℕ) → (section start next).read (id ∷ bytes) ≡ Err Bad)
    → IsDecidedBy start next (id ∷ sized) (start + 1)
id_decides start next id sized fails = (
  omega arith,
  λ more.
      let one : (start + 1) - start ≡ 1 = omega arith in
      (Bad, ap (λ n. (section start next).read (take n (id ∷ sized) ++ more)) one ∙ fails more),
)

pub after_decides : (start next : ℕ) (k : SectionKind) (sized : List ℕ) (end : ℕ) → misplaced next (order_of (id_of k)) ≡ false
    → IsDecidedAfter start (id_of k) sized end → IsDecidedBy start next (id_of k ∷ sized) end
after_decides start next k sized end m d = (
  d.0,
  λ more.
      let f = d.1 more in
      let more_bytes : end - start ≡ suc (end - (start + 1)) = omega (arith, d.0) in (
        f.0,
        ap (λ n. (section start next).read (take n (id_of k ∷ sized) ++ more)) more_bytes
            ∙ read_after_id start next k (take (end - (start + 1)) sized ++ more) m ∙ f.1,
      ),
)

-- ids from 14 on have no kind
apart : (a b : ℕ) → b < a → eqb a b ≡ false
apart a b l = elim (cases_Bool (eqb a b)) [
  | inl t ↦ absurd (omega (arith, eqb-true a b t))
  | inr f ↦ f
]

below : (a b : ℕ) → a < b → eqb a b ≡ false
below a b l = elim (cases_Bool (eqb a b)) [
  | inl t ↦ absurd (omega (arith, eqb-true a b t))
  | inr f ↦ f
]

large_kind : (id : ℕ) → 14 ≤ id → kind_of id ≡ None
large_kind id l = rw (
  apart id 0 (omega arith),
  apart id 1 (omega arith),
  apart id 2 (omega arith),
  apart id 3 (omega arith),
  apart id 4 (omega arith),
  apart id 5 (omega arith),
  apart id 6 (omega arith),
  apart id 7 (omega arith),
  apart id 8 (omega arith),
  apart id 9 (omega arith),
  apart id 10 (omega arith),
  apart id 11 (omega arith),
  apart id 12 (omega arith),
  apart id 13 (omega arith),
) refl

large_order : (id : ℕ) → 14 ≤ id → order_of id ≡ None
large_order id l = rw (
  below 1 id (omega arith),
  below 2 id (omega arith),
  below 3 id (omega arith),
  below 4 id (omega arith),
  below 5 id (omega arith),
  below 13 id (omega arith),
  below 6 id (omega arith),
  below 7 id (omega arith),
  below 8 id (omega arith),
  below 9 id (omega arith),
  below 12 id (omega arith),
  below 10 id (omega arith),
  below 11 id (omega arith),
) refl

-- an id is that of its kind
pub kind_id : (id : ℕ) (k : SectionKind) → kind_of id ≡ Some k → id ≡ id_of k
kind_id zero k e = let is : kind.Custom ≡ k = cc in ap id_of is
kind_id (suc zero) k e = let is : kind.Type ≡ k = cc in ap id_of is
kind_id (suc (suc zero)) k e = let is : kind.Import ≡ k = cc in ap id_of is
kind_id (suc (suc (suc zero))) k e = let is : kind.Function ≡ k = cc in ap id_of is
kind_id (suc (suc (suc (suc zero)))) k e = let is : kind.Table ≡ k = cc in ap id_of is
kind_id (suc (suc (suc (suc (suc zero))))) k e = let is : kind.Memory ≡ k = cc in ap id_of is
kind_id (suc (suc (suc (suc (suc (suc zero)))))) k e = let is : kind.Global ≡ k = cc in ap id_of is
kind_id (suc (suc (suc (suc (suc (suc (suc zero))))))) k e = let is : kind.Export ≡ k = cc in ap id_of is
kind_id (suc (suc (suc (suc (suc (suc (suc (suc zero)))))))) k e = let is : kind.Start ≡ k = cc in ap id_of is
kind_id (suc (suc (suc (suc (suc (suc (suc (suc (suc zero))))))))) k e = let is : kind.Element ≡ k = cc in ap id_of is
kind_id (suc (suc (suc (suc (suc (suc (suc (suc (suc (suc zero)))))))))) k e = let is : kind.Code ≡ k = cc in ap id_of is
kind_id (suc (suc (suc (suc (suc (suc (suc (suc (suc (suc (suc zero))))))))))) k e = let is : kind.Data ≡ k = cc in ap id_of is
kind_id (suc (suc (suc (suc (suc (suc (suc (suc (suc (suc (suc (suc zero)))))))))))) k e = let is : kind.DataCount ≡ k = cc in ap id_of is
kind_id (suc (suc (suc (suc (suc (suc (suc (suc (suc (suc (suc (suc (suc zero))))))))))))) k e = let is : kind.Tag ≡ k = cc in ap id_of is
kind_id (suc (suc (suc (suc (suc (suc (suc (suc (suc (suc (suc (suc (suc (suc n)))))))))))))) k e = absurd (let both : None ≡ Some k = sym (large_kind (suc (suc (suc (suc (suc (suc (suc (suc (suc (suc (suc (suc (suc (suc n)))))))))))))) (omega arith)) ∙ e in cc)

unknown_large : (id : ℕ) → kind_of id ≡ None → 14 ≤ id
unknown_large zero e = absurd cc
unknown_large (suc zero) e = absurd cc
unknown_large (suc (suc zero)) e = absurd cc
unknown_large (suc (suc (suc zero))) e = absurd cc
unknown_large (suc (suc (suc (suc zero)))) e = absurd cc
unknown_large (suc (suc (suc (suc (suc zero))))) e = absurd cc
unknown_large (suc (suc (suc (suc (suc (suc zero)))))) e = absurd cc
unknown_large (suc (suc (suc (suc (suc (suc (suc zero))))))) e = absurd cc
unknown_large (suc (suc (suc (suc (suc (suc (suc (suc zero)))))))) e = absurd cc
unknown_large (suc (suc (suc (suc (suc (suc (suc (suc (suc zero))))))))) e = absurd cc
unknown_large (suc (suc (suc (suc (suc (suc (suc (suc (suc (suc zero)))))))))) e = absurd cc
unknown_large (suc (suc (suc (suc (suc (suc (suc (suc (suc (suc (suc zero))))))))))) e = absurd cc
unknown_large (suc (suc (suc (suc (suc (suc (suc (suc (suc (suc (suc (suc zero)))))))))))) e = absurd cc
unknown_large (suc (suc (suc (suc (suc (suc (suc (suc (suc (suc (suc (suc (suc zero))))))))))))) e = absurd cc
unknown_large (suc (suc (suc (suc (suc (suc (suc (suc (suc (suc (suc (suc (suc (suc n)))))))))))))) e = omega arith

-- where there is no kind, there is no section
pub unknown_unread : (start next id : ℕ) (bytes : List ℕ) → kind_of id ≡ None → (section start next).read (id ∷ bytes) ≡ Err Bad
unfolding section
unknown_unread start next id bytes e =
    let l = unknown_large id e in
    rw (apart id 0 (omega arith), large_order id l) refl
