-- Entries one after the other, as a loop reads them.
use Rattle.std.proofs.Common.{◌≡◌, ℕ, suc, ◌+◌, ◌-◌, ◌<◌, ◌≤◌, List, [], ◌∷◌, ◌++◌, Result, Ok, Err, refl, sym, ap, ◌∙◌, append_assoc, arith}
use Rattle.std.proofs.lemmas.List.{append-nil}
use Rattle.form_reader.specs.Reading.{Reader, Fails, and_then, Fault, Bad, Stops, elements_at}
use Rattle.form_reader.specs.declared.error.ReadError.{ReadError}
use Rattle.form_reader.specs.declared.error.ReadError.TheVariants as errors

-- what was read before, and what remains to be read
abbrev pub with_front : {A : Type 0} → List A → Result (List A × List ℕ) Fault → Result (List A × List ℕ) Fault
with_front front read = and_then read (λ x. Ok (front ++ x.0, x.1))

pub regroup : {A : Type 0} (front : List A) (n : A) (read : Result (List A × List ℕ) Fault)
    → with_front front (and_then read (λ x. Ok (n ∷ x.0, x.1))) ≡ with_front (front ++ n ∷ []) read
regroup {A} front n (Ok x) = ap (λ (ns : List A). Ok (ns, x.1)) (simp append_assoc)
regroup front n (Err f) = refl

-- nothing was read before
pub all_so_far : {A : Type 0} (read : Result (List A × List ℕ) Fault) → with_front [] read ≡ read
all_so_far (Ok x) = refl
all_so_far (Err fault) = refl

module _ {A : Type 0} (read : Reader A) where
  -- one more is read
  pub one_more : (n i : ℕ) (front : List A) (x : A) (bytes rest : List ℕ) (total : Result (List A × List ℕ) Fault) → i < n → read bytes ≡ Ok (x, rest)
      → with_front front (elements_at read (n - i) bytes) ≡ total → with_front (front ++ x ∷ []) (elements_at read (n - (i + 1)) rest) ≡ total
  unfolding elements_at
  one_more n i front x bytes rest total l e so_far =
      let k : n - i ≡ suc (n - (i + 1)) = omega arith in
      sym (regroup front x (elements_at read (n - (i + 1)) rest)) ∙ sym (rw (k, e) refl) ∙ so_far

  -- one is not read
  pub one_fails : (n i : ℕ) (front : List A) (bytes : List ℕ) (fault : Fault) (total : Result (List A × List ℕ) Fault) → i < n → read bytes ≡ Err fault
      → with_front front (elements_at read (n - i) bytes) ≡ total → total ≡ Err fault
  unfolding elements_at
  one_fails n i front bytes fault total l e so_far =
      let k : n - i ≡ suc (n - (i + 1)) = omega arith in
      sym so_far ∙ rw (k, e) refl

  pub one_fails_all : (n i : ℕ) (front : List A) (bytes : List ℕ) (e : ReadError) (total : Result (List A × List ℕ) Fault) → i < n → Fails e (read bytes)
      → with_front front (elements_at read (n - i) bytes) ≡ total → Fails e total
  one_fails_all n i front bytes errors.Malformed total l f so_far = one_fails n i front bytes Bad total l f so_far
  one_fails_all n i front bytes (errors.Unsupported what) total l f so_far = one_fails n i front bytes (Stops what) total l f so_far
  one_fails_all n i front bytes errors.TooLarge total l f so_far = absurd f
  one_fails_all n i front bytes errors.OutOfMemory total l f so_far = tt

  -- all are read
  pub all_read : (n i : ℕ) (front : List A) (bytes : List ℕ) (total : Result (List A × List ℕ) Fault) → n ≤ i
      → with_front front (elements_at read (n - i) bytes) ≡ total → total ≡ Ok (front, bytes)
  unfolding elements_at
  all_read n i front bytes total l so_far =
      let k : n - i ≡ 0 = omega arith in
      sym so_far ∙ rw k (ap (λ (xs : List A). Ok (xs, bytes)) (append-nil front))
