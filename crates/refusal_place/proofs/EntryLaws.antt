-- Entries that are read one after another, up to the first that is not.
use Rattle.std.proofs.Common.{◌≡◌, ℕ, zero, suc, ◌+◌, ◌-◌, ◌<◌, ◌≤◌, List, [], ◌∷◌, ◌++◌, length, Some, None, Ok, Err, refl, ap, subst, ◌∙◌, arith}
use Rattle.std.proofs.lemmas.List.{length-append}
use Rattle.wasm_spec.specs.declared.operators.What.{What}
use Rattle.form_reader.specs.declared.error.ReadError.{ReadError}
use Rattle.form_reader.specs.declared.error.ReadError.TheVariants as errors
use Rattle.form_reader.specs.Reading.{Fault as ReadFault, Bad, Fails, Reader, and_then, elements_at, whole}
use Rattle.form_reader.specs.ReadingNumbers.{unsigned_at, vector_at}
use Rattle.form_reader.specs.Agrees.{ok, ok_is, step_ok}
use Rattle.form_reader.specs.NumberLaws.{unsigned_agrees}
use Rattle.refusal_place.specs.declared.place.Fault.{Fault}
use Rattle.refusal_place.specs.declared.place.Fault.TheVariants as fault
use Rattle.refusal_place.specs.Found.{IsEntryRead, IsEntriesFault, LeavesBytes, ReadsUpTo, Shortens}

-- a number does not stop
pub number_never_stops : (bytes : List ℕ) (e : ReadError) (w : What) → e ≡ errors.Unsupported w → Fails e (unsigned_at 32 bytes) → unsigned_at 32 bytes ≡ Err Bad
number_never_stops bytes e w is f = absurd ((unsigned_agrees 32).stopped bytes w (subst (λ d. Fails d (unsigned_at 32 bytes)) is f))

-- a number takes its bytes from the front
pub number_shorter : (bytes : List ℕ) (n : ℕ) (rest : List ℕ) → unsigned_at 32 bytes ≡ Ok (n, rest) → length rest ≤ length bytes
number_shorter bytes n rest e = let f = (unsigned_agrees 32).found bytes n rest e in omega (arith, ap length f.1, length-append f.0 rest)

module _ {A : Type 0} (read : Reader A) where
  -- one, and then more
  one_and_more : (n : ℕ) (start rest : List ℕ) (y : A × List ℕ) (ys : List A) → read start ≡ Ok y → elements_at read n y.1 ≡ Ok (ys, rest)
      → elements_at read (suc n) start ≡ Ok (y.0 ∷ ys, rest)
  unfolding elements_at
  one_and_more n start rest y ys e f = rw (e, f) refl

  -- one more is read
  one_more : (n : ℕ) (start now rest : List ℕ) (xs : List A) (x : A) → elements_at read n start ≡ Ok (xs, now) → read now ≡ Ok (x, rest)
      → elements_at read (suc n) start ≡ Ok (xs ++ x ∷ [], rest)
  unfolding elements_at
  one_more zero start now rest xs x e r =
      let s : ([], start) ≡ (xs, now) = ok_is ([], start) (xs, now) e in
      let empty : [] ≡ xs = ap (λ (q : List A × List ℕ). q.0) s in
      let same : start ≡ now = ap (λ (q : List A × List ℕ). q.1) s in
      one_and_more zero start rest (x, rest) [] (ap read same ∙ r) refl ∙ ap (λ (ys : List A). ok (ys ++ x ∷ [], rest)) empty
  one_more (suc n) start now rest xs x e r =
      let first = step_ok (read start) (λ y. and_then (elements_at read n y.1) (λ ys. Ok (y.0 ∷ ys.0, ys.1))) (xs, now) e in
      let later = step_ok (elements_at read n first.0.1) (λ ys. Ok (first.0.0 ∷ ys.0, ys.1)) (xs, now) first.2 in
      let s : (first.0.0 ∷ later.0.0, later.0.1) ≡ (xs, now) = ok_is (first.0.0 ∷ later.0.0, later.0.1) (xs, now) later.2 in
      let all : first.0.0 ∷ later.0.0 ≡ xs = ap (λ (q : List A × List ℕ). q.0) s in
      let same : later.0.1 ≡ now = ap (λ (q : List A × List ℕ). q.1) s in
      let others = one_more n first.0.1 later.0.1 rest later.0.0 x later.1 (ap read same ∙ r) in
      one_and_more (suc n) start rest first.0 (later.0.0 ++ x ∷ []) first.1 others ∙ ap (λ (ys : List A). ok (ys ++ x ∷ [], rest)) all

  -- the count was read, and no entry
  pub none_yet : (contents rest : List ℕ) (count : ℕ) → unsigned_at 32 contents ≡ Ok (count, rest)
      → ReadsUpTo read contents 0 (length contents - length rest) count rest
  unfolding elements_at
  none_yet contents rest count e = record {
    first = rest;
    entries = [];
    counts = e;
    before = refl;
    offset_is = let shorter = number_shorter contents count rest e in omega (arith, shorter);
  }

  -- an entry was read
  pub passed : (contents : List ℕ) (entry count : ℕ) (rest new : List ℕ) → Shortens read → IsEntryRead read rest new None
      → ReadsUpTo read contents entry (length contents - length rest) count rest
      → ReadsUpTo read contents (entry + 1) (length contents - length new) count new
  passed contents entry count rest new s (x, r) u = record {
    first = u.first;
    entries = u.entries ++ x ∷ [];
    counts = u.counts;
    before = let k : entry + 1 ≡ suc entry = omega arith in rw k (one_more entry u.first rest new u.entries x u.before r);
    offset_is = let shorter = s.shorter rest x new r in omega (arith, shorter, u.offset_is);
  }

  -- an entry is not read
  pub unread_entry : (contents : List ℕ) (entry count : ℕ) (rest new : List ℕ) (f : Fault) → IsEntryRead read rest new (Some f) → entry < count
      → ReadsUpTo read contents entry (length contents - length rest) count rest
      → IsEntriesFault read contents f (Some entry) (length contents - length rest)
  unread_entry contents entry count rest new fault.Header r l u = r
  unread_entry contents entry count rest new (fault.UnknownSection id) r l u = r
  unread_entry contents entry count rest new fault.SectionOrder r l u = r
  unread_entry contents entry count rest new fault.SectionSize r l u = r
  unread_entry contents entry count rest new (fault.SectionEnd end) r l u = r
  unread_entry contents entry count rest new fault.Number r l u = r
  unread_entry contents entry count rest new fault.Name r l u = r
  unread_entry contents entry count rest new fault.Count r l u = r
  unread_entry contents entry count rest new fault.Entry r l u = record { count = count; rest = rest; up_to = u; listed = l; unread = r }
  unread_entry contents entry count rest new fault.Remainder r l u = r
  unread_entry contents entry count rest new (fault.Unsupported w) r l u = record { count = count; rest = rest; up_to = u; listed = l; unread = r }

  -- all entries are read, so bytes are left
  pub left_bytes : (contents : List ℕ) (count : ℕ) (rest : List ℕ) (f : ReadFault) → whole (vector_at read) contents ≡ Err f
      → ReadsUpTo read contents count (length contents - length rest) count rest
      → LeavesBytes read contents (length contents - length rest)
  unfolding whole vector_at
  left_bytes contents count [] f e u = let all = rw (u.counts, u.before) at e in absurd cc
  left_bytes contents count (b ∷ bytes) f e u = record { count = count; rest = b ∷ bytes; up_to = u; left = omega arith }
