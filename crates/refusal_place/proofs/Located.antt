-- What is found, as the place of what is wrong.
use Rattle.std.proofs.Common.{◌≡◌, ℕ, zero, suc, ◌+◌, ◌-◌, ◌<◌, ◌≤◌, List, [], ◌∷◌, ◌++◌, length, take, drop, Option, Some, None, Err, true, ltb, refl, sym, ap, subst, ◌∙◌, arith, inl, inr}
use Rattle.std.specs.Prelude.{◌≢◌, IfSome, nat_eq, slice_get}
use Rattle.std.specs.List.{starts_with}
use Rattle.std.proofs.lemmas.Bool.{cases_Bool, ltb-true, ltb-false}
use Rattle.std.proofs.lemmas.Bool.Decides.{Decides-eqb}
use Rattle.std.proofs.lemmas.Slice.Eq.{starts_is}
use Rattle.std.proofs.lemmas.List.{length-append, length-take, drop-drop, length-drop, nil_from_length, take_all}
use Rattle.wasm_spec.specs.Grammar as grammar
use Rattle.wasm_spec.specs.Grammar.{header, next_order}
use Rattle.form_reader.specs.Reading.{Fault as ReadFault}
use Rattle.form_reader.specs.SectionRows.{section}
use Rattle.refusal_place.specs.declared.place.Place.{Place}
use Rattle.refusal_place.specs.Found.{IsOther, IsPassed, IsDecidedBy, place_in_header}
use Rattle.refusal_place.specs.Places.{AreAModule, Decides, IsPlaceOf, IsOpenWhereItEnds, IsUnread, IsWrong, ComesTo}
use Rattle.refusal_place.proofs.Passing.{IsReadTo, reads_header, reads_more, all_read, no_module, decides, is_unread}

-- ---- the header

get_front : (xs ys : List ℕ) (i : ℕ) → i < length xs → slice_get (xs ++ ys) i ≡ slice_get xs i
get_front [] ys i l = absurd (omega arith)
get_front (x ∷ xs) ys zero l = refl
get_front (x ∷ xs) ys (suc i) l = get_front xs ys i (omega arith)

get_taken : (n : ℕ) (xs : List ℕ) (i : ℕ) → i < n → slice_get (take n xs) i ≡ slice_get xs i
get_taken zero xs i l = absurd (omega arith)
get_taken (suc n) [] i l = refl
get_taken (suc n) (x ∷ xs) zero l = refl
get_taken (suc n) (x ∷ xs) (suc i) l = get_taken n xs i (omega arith)

pub header_no_module : (bytes : List ℕ) (offset : ℕ) → offset < length header → slice_get bytes offset ≢ slice_get header offset → AreAModule bytes → ⊥
header_no_module bytes offset l other (m, s, none) =
    other (ap (λ (l : List ℕ). slice_get l offset) s.parts ∙ get_front header s.body offset l)

header_decides : (bytes : List ℕ) (offset : ℕ) → IsOther bytes offset → offset < length bytes → Decides bytes (offset + 1)
header_decides bytes offset o l = λ more.
    let long : offset < length (take (offset + 1) bytes) = omega (arith, length-take (offset + 1) bytes) in
    let same : slice_get (take (offset + 1) bytes ++ more) offset ≡ slice_get bytes offset =
    get_front (take (offset + 1) bytes) more offset long ∙ get_taken (offset + 1) bytes offset (omega arith) in
    header_no_module (take (offset + 1) bytes ++ more) offset o.short (λ e. o.other (sym same ∙ e))

pub header_decided : (bytes : List ℕ) (offset : ℕ) → IsOther bytes offset → IfSome (place_in_header bytes offset).decided (Decides bytes)
header_decided bytes offset o = elim (cases_Bool (ltb offset (length bytes))) [
  | inl t ↦ rw t (header_decides bytes offset o (ltb-true offset (length bytes) t))
  | inr t ↦ rw t tt
]

pub header_place : (bytes : List ℕ) (offset : ℕ) → IsOther bytes offset → IsPlaceOf bytes (place_in_header bytes offset)
header_place bytes offset o = record {
  place = inl (refl, record { same = o.same; within = o.within; other = o.other; no_section = (refl, refl, refl) });
  within = o.within;
}

pub header_open : (bytes : List ℕ) (offset : ℕ) → offset ≤ length bytes → IsOpenWhereItEnds (length bytes) (place_in_header bytes offset)
header_open bytes offset within = elim (cases_Bool (ltb offset (length bytes))) [
  | inl t ↦ rw t ((λ e. absurd cc), λ ends. absurd (omega (arith, ends, ltb-true offset (length bytes) t)))
  | inr t ↦ rw t ((λ e. omega (arith, within, ltb-false offset (length bytes) t)), λ ends. refl)
]

-- the bytes from an offset on
abbrev pub bytes_from : List ℕ → ℕ → List ℕ
bytes_from bytes start = take (length bytes - start) (drop start bytes)

pub from_is : (bytes : List ℕ) (start : ℕ) → bytes_from bytes start ≡ drop start bytes
from_is bytes start = take_all (length bytes - start) (drop start bytes) (omega (arith, length-drop start bytes))

pub header_is_read : (bytes : List ℕ) → starts_with nat_eq bytes header ≡ true → IsReadTo bytes 8 0 (bytes_from bytes 8)
header_is_read bytes t =
    let parts : bytes ≡ header ++ drop 8 bytes = (starts_is Decides-eqb bytes header (starts_with nat_eq bytes header) refl).0 t in
    reads_header bytes (bytes_from bytes 8) (parts ∙ ap (λ (l : List ℕ). header ++ l) (sym (from_is bytes 8)))

pub header_within : (bytes rest : List ℕ) → IsReadTo bytes 8 0 rest → 8 ≤ length bytes
header_within bytes rest r = omega (arith, ap length r.comes.parts, length-append header (r.comes.front ++ rest))

-- ---- sections

module _ (bytes : List ℕ) (start next : ℕ) (within : start ≤ length bytes) (r : IsReadTo bytes start next (bytes_from bytes start)) where
  left : length (bytes_from bytes start) ≡ length bytes - start
  left = ap length (from_is bytes start) ∙ length-drop start bytes

  pub one_more : (after count : ℕ) → IsPassed start next after (bytes_from bytes start) (Some count)
      → (start + count ≤ length bytes) × IsReadTo bytes (start + count) after (bytes_from bytes (start + count)) × (0 < count)
  one_more after count (p, read, order, some, fits) =
      let rest = bytes_from bytes start in
      let more = reads_more bytes start next rest p (drop count rest) r read in
      let far : start + (length rest - length (drop count rest)) ≡ start + count = omega (arith, left, fits, length-drop count rest) in
      let same : drop count rest ≡ bytes_from bytes (start + count) =
      ap (drop count) (from_is bytes start) ∙ drop-drop count start bytes ∙ sym (from_is bytes (start + count)) in
      let P : ℕ → ℕ → Type 0 = λ m n. IsReadTo bytes m n (drop count rest) in
      let there : IsReadTo bytes (start + count) after (drop count rest) =
      let Q : ℕ → Type 0 = λ m. P m (next_order next p) in
      subst (P (start + count)) (sym order) (subst Q far more) in (
        omega (arith, left, fits),
        subst (IsReadTo bytes (start + count) after) same there,
        some,
      )

  pub ends : length bytes ≤ start → AreAModule bytes
  ends l =
      let e : bytes_from bytes start ≡ [] = nil_from_length (bytes_from bytes start) (omega (arith, left)) in
      all_read bytes start next (subst (IsReadTo bytes start next) e r)

  module _ (some : start < length bytes) (f : ReadFault) (e : (section start next).read (bytes_from bytes start) ≡ Err f) where
    pub more_left : 0 < length (bytes_from bytes start)
    more_left = omega (arith, left, some)

    pub not_a_module : AreAModule bytes → ⊥
    not_a_module = no_module bytes start next (bytes_from bytes start) f r.comes more_left e

    pub is_place : (p : Place) → (p.section_start ≡ start) × IsWrong p.fault next (bytes_from bytes start) p
        → p.byte ≤ start + length (bytes_from bytes start) → IsPlaceOf bytes p
    is_place p wrong byte = record {
      place = inr (record {
        next = next;
        rest = bytes_from bytes start;
        comes_to = let P : ℕ → Type 0 = λ n. ComesTo bytes n next (bytes_from bytes start) in subst P (sym wrong.0) r.comes;
        unread = let P : ℕ → Type 0 = λ n. IsUnread (grammar.section n next) (bytes_from bytes start) in
            subst P (sym wrong.0) (is_unread start next (bytes_from bytes start) f e);
        wrong = wrong.1;
      });
      within = omega (arith, left, byte);
    }

    pub is_open : (p : Place) → IsOpenWhereItEnds (start + length (bytes_from bytes start)) p → IsOpenWhereItEnds (length bytes) p
    is_open p o = let P : ℕ → Type 0 = λ n. IsOpenWhereItEnds n p in subst P (omega (arith, left, some)) o

    pub is_decided : (o : Option ℕ) → IfSome o (IsDecidedBy start next (bytes_from bytes start)) → IfSome o (Decides bytes)
    is_decided (Some end) d = decides bytes start next (bytes_from bytes start) end r.comes more_left d
    is_decided None d = tt

-- where nothing is passed, the order stays
pub refused_at : (bytes : List ℕ) (start next after : ℕ) → IsReadTo bytes start next (bytes_from bytes start)
    → IsPassed start next after (bytes_from bytes start) None
    → IsReadTo bytes start after (bytes_from bytes start) × ((f : ReadFault) × ((section start after).read (bytes_from bytes start) ≡ Err f))
refused_at bytes start next after r (unread, same) = (
  let P : ℕ → Type 0 = λ n. IsReadTo bytes start n (bytes_from bytes start) in subst P (sym same) r,
  (unread.0, ap (λ n. (section start n).read (bytes_from bytes start)) same ∙ unread.1),
)
