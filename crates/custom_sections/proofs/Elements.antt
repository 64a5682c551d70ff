-- Elements one after the other, as a loop reads them.
use Rattle.std.proofs.Common.{◌≡◌, ℕ, suc, ◌-◌, ◌+◌, ◌<◌, ◌≤◌, List, [], ◌∷◌, ◌++◌, Option, Some, None, Result, Ok, Err, refl, ap, append_assoc, arith}
use Rattle.std.specs.Option.{option_map}
use Rattle.std.specs.Result.{result_ok}
use Rattle.std.proofs.lemmas.List.{append-nil}
use Rattle.form_reader.specs.Reading.{Fault, Reader, and_then, elements_at}
use Rattle.form_reader.specs.ReadingNumbers.{unsigned_at, vector_at}
use Rattle.form_reader.proofs.Taken.{was_read, was_not_read}

-- what was read before, and what is still to be read
abbrev pub with_front : {A : Type 0} → List A → Option (List A × List ℕ) → Option (List A × List ℕ)
with_front front read = option_map (λ x. (front ++ x.0, x.1)) read

regroup : {A : Type 0} (front : List A) (x : A) (read : Result (List A × List ℕ) Fault)
    → with_front front (result_ok (and_then read (λ y. Ok (x ∷ y.0, y.1)))) ≡ with_front (front ++ x ∷ []) (result_ok read)
regroup {A} front x (Ok y) = ap (λ (ys : List A). Some (ys, y.1)) (simp append_assoc)
regroup front x (Err f) = refl

all_so_far : {A : Type 0} (read : Result (List A × List ℕ) Fault) → with_front [] (result_ok read) ≡ result_ok read
all_so_far read = grind arith

module _ {A : Type 0} (part : Reader A) where
  -- what so many elements add to the earlier ones
  abbrev pub so_far : List A → ℕ → List ℕ → Option (List A × List ℕ)
  so_far front n bytes = with_front front (result_ok (elements_at part n bytes))

  pub at_start : (count : ℕ) (rest bytes : List ℕ) → Some (count, rest) ≡ result_ok (unsigned_at 32 bytes)
      → so_far [] (count - 0) rest ≡ result_ok (vector_at part bytes)
  unfolding vector_at
  at_start count rest bytes e = grind (arith, was_read, all_so_far)

  pub no_count : (bytes : List ℕ) → None ≡ result_ok (unsigned_at 32 bytes) → None ≡ result_ok (vector_at part bytes)
  unfolding vector_at
  no_count bytes e = let f = was_not_read (unsigned_at 32 bytes) e in rw f.1 refl

  more_is : (front : List A) (n : ℕ) (bytes : List ℕ) (x : A) (rest : List ℕ) → Some (x, rest) ≡ result_ok (part bytes)
      → so_far front (suc n) bytes ≡ so_far (front ++ x ∷ []) n rest
  unfolding elements_at
  more_is front n bytes x rest e = rw (was_read (x, rest) (part bytes) e) (regroup front x (elements_at part n rest))

  pub more : (front : List A) (count i : ℕ) (bytes : List ℕ) (x : A) (rest : List ℕ) (total : Option (List A × List ℕ)) → i < count
      → Some (x, rest) ≡ result_ok (part bytes) → so_far front (count - i) bytes ≡ total
      → so_far (front ++ x ∷ []) (count - (i + 1)) rest ≡ total
  more front count i bytes x rest total lt e h = grind (arith, more_is front (count - (i + 1)) bytes x rest e)

  fails_is : (front : List A) (n : ℕ) (bytes : List ℕ) → None ≡ result_ok (part bytes) → so_far front (suc n) bytes ≡ None
  unfolding elements_at
  fails_is front n bytes e = let f = was_not_read (part bytes) e in rw f.1 refl

  pub fails : (front : List A) (count i : ℕ) (bytes : List ℕ) (total : Option (List A × List ℕ)) → i < count
      → None ≡ result_ok (part bytes) → so_far front (count - i) bytes ≡ total → None ≡ total
  fails front count i bytes total lt e h = grind (arith, fails_is front (count - (i + 1)) bytes e)

  done_is : (front : List A) (bytes : List ℕ) → so_far front 0 bytes ≡ Some (front, bytes)
  unfolding elements_at
  done_is front bytes = ap (λ (xs : List A). Some (xs, bytes)) (append-nil front)

  pub is_done : (front : List A) (count i : ℕ) (bytes : List ℕ) (total : Option (List A × List ℕ)) → count ≤ i
      → so_far front (count - i) bytes ≡ total → Some (front, bytes) ≡ total
  is_done front count i bytes total le h = grind (arith, done_is)
