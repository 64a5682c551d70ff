-- Elements up to a fault, as a loop reads them.
use Rattle.std.proofs.Common.{◌≡◌, ℕ, suc, ◌-◌, ◌+◌, ◌<◌, ◌≤◌, List, [], ◌∷◌, ◌++◌, Option, Some, None, refl, sym, ap, ◌∙◌, append_assoc, arith}
use Rattle.std.specs.Result.{result_ok}
use Rattle.std.proofs.lemmas.List.{append-nil}
use Rattle.form_reader.specs.ReadingNumbers.{unsigned_at}
use Rattle.custom_sections.specs.NameReading.{Partly, list_of, in_front, elements_before, counted_before, vector_before, naming_at, naming_before, names_before, locals_before, locals_behind, one_or_none}
use Rattle.form_reader.proofs.Taken.{was_read, was_not_read}

-- ---- one element

pub naming_is : (bytes : List ℕ) (x : ℕ × List ℕ) (rest : List ℕ)
    → Some (x, rest) ≡ result_ok (naming_at bytes) → naming_before bytes ≡ (Some x, Some rest)
naming_is bytes x rest e = ap one_or_none (was_read (x, rest) (naming_at bytes) e)

pub naming_none : (bytes : List ℕ) → None ≡ result_ok (naming_at bytes) → naming_before bytes ≡ (None, None)
naming_none bytes e = ap one_or_none (was_not_read (naming_at bytes) e).1

pub locals_are : (bytes : List ℕ) (function : ℕ) (rest : List ℕ) → Some (function, rest) ≡ result_ok (unsigned_at 32 bytes)
    → locals_before bytes ≡ (Some (function, (names_before rest).0), (names_before rest).1)
locals_are bytes function rest e = ap locals_behind (was_read (function, rest) (unsigned_at 32 bytes) e)

pub locals_none : (bytes : List ℕ) → None ≡ result_ok (unsigned_at 32 bytes) → locals_before bytes ≡ (None, None)
locals_none bytes e = ap locals_behind (was_not_read (unsigned_at 32 bytes) e).1

-- ---- many

abbrev pub ended : {A : Type 0} → List A → Option (List ℕ) → List A × Option (List ℕ)
ended front rest = (front, rest)

module _ {A : Type 0} (part : Partly A) where
  -- what so many elements add to the earlier ones
  abbrev pub still : List A → ℕ → List ℕ → List A × Option (List ℕ)
  still front n bytes = in_front front (elements_before part n bytes)

  pub at_start : (front : List A) (count : ℕ) (rest bytes : List ℕ) → Some (count, rest) ≡ result_ok (unsigned_at 32 bytes)
      → still front (count - 0) rest ≡ in_front front (vector_before part bytes)
  unfolding vector_before
  at_start front count rest bytes e = grind (arith, was_read)

  pub no_count : (bytes : List ℕ) → None ≡ result_ok (unsigned_at 32 bytes) → vector_before part bytes ≡ ([], None)
  unfolding vector_before
  no_count bytes e = let f = was_not_read (unsigned_at 32 bytes) e in ap (counted_before part) f.1

  more_is : (front : List A) (n : ℕ) (bytes : List ℕ) (x : A) (rest : List ℕ) → part bytes ≡ (Some x, Some rest)
      → still front (suc n) bytes ≡ still (front ++ x ∷ []) n rest
  unfolding elements_before
  more_is front n bytes x rest e = rw e (ap (λ (xs : List A). (xs, (elements_before part n rest).1)) (simp append_assoc))

  pub more : (front : List A) (count i : ℕ) (bytes : List ℕ) (x : A) (rest : List ℕ) (total : List A × Option (List ℕ)) → i < count
      → part bytes ≡ (Some x, Some rest) → still front (count - i) bytes ≡ total → still (front ++ x ∷ []) (count - (i + 1)) rest ≡ total
  more front count i bytes x rest total lt e h = grind (arith, more_is front (count - (i + 1)) bytes x rest e)

  ends_is : (front : List A) (n : ℕ) (bytes : List ℕ) (one : Option A) → part bytes ≡ (one, None)
      → still front (suc n) bytes ≡ (front ++ list_of one, None)
  unfolding elements_before
  ends_is front n bytes one e = rw e refl

  pub ends : (front : List A) (count i : ℕ) (bytes : List ℕ) (one : Option A) (total : List A × Option (List ℕ)) → i < count
      → part bytes ≡ (one, None) → still front (count - i) bytes ≡ total → ended (front ++ list_of one) None ≡ total
  ends front count i bytes one total lt e h = grind (arith, ends_is front (count - (i + 1)) bytes one e)

  -- nothing is read of the element with the fault
  pub fails : (front : List A) (count i : ℕ) (bytes : List ℕ) (total : List A × Option (List ℕ)) → i < count
      → part bytes ≡ (None, None) → still front (count - i) bytes ≡ total → ended front None ≡ total
  fails front count i bytes total lt e h =
      ap (λ (xs : List A). ended xs None) (sym (append-nil front)) ∙ ends front count i bytes None total lt e h

  done_is : (front : List A) (bytes : List ℕ) → still front 0 bytes ≡ (front, Some bytes)
  unfolding elements_before
  done_is front bytes = ap (λ (xs : List A). (xs, Some bytes)) (append-nil front)

  pub is_done : (front : List A) (count i : ℕ) (bytes : List ℕ) (total : List A × Option (List ℕ)) → count ≤ i
      → still front (count - i) bytes ≡ total → ended front (Some bytes) ≡ total
  is_done front count i bytes total le h = grind (arith, done_is)

pub local_step : (bytes : List ℕ) (function : ℕ) (rest : List ℕ) (names : List (ℕ × List ℕ)) (after : Option (List ℕ))
    → Some (function, rest) ≡ result_ok (unsigned_at 32 bytes) → names ≡ (names_before rest).0 → after ≡ (names_before rest).1
    → locals_before bytes ≡ (Some (function, names), after)
local_step bytes function rest names after e n a = rw (n, a) (locals_are bytes function rest e)
