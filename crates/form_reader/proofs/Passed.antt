-- Entries that are passed: they are read, and the value is not kept.
use Rattle.std.proofs.Common.{◌≡◌, ℕ, List, Result, Ok, Err, refl}
use Rattle.form_reader.specs.Reading.{Reader, Fails, Fault, and_then, rest_at}
use Rattle.form_reader.specs.declared.error.ReadError.{ReadError}
use Rattle.form_reader.specs.declared.error.ReadError.TheVariants as errors

module _ {A : Type 0} (read : Reader A) where
  -- what is passed is read
  pub past : (bytes rest : List ℕ) → rest_at read bytes ≡ Ok rest → (x : A) × (read bytes ≡ Ok (x, rest))
  unfolding rest_at
  past bytes rest e = by (read bytes) e where
    by : (r : Result (A × List ℕ) Fault) → and_then {B = List ℕ} r (λ x. Ok x.1) ≡ Ok rest → (x : A) × (r ≡ Ok (x, rest))
    by (Ok (x, left)) e = (x, cc)
    by (Err f) e = absurd cc

  -- what is not passed is not read
  pub past_fails : (e : ReadError) (bytes : List ℕ) → Fails e (rest_at read bytes) → Fails e (read bytes)
  unfolding rest_at
  past_fails e bytes = by e (read bytes) where
    by : (e : ReadError) (r : Result (A × List ℕ) Fault) → Fails e (and_then {B = List ℕ} r (λ x. Ok x.1)) → Fails e r
    by errors.Malformed (Ok x) f = absurd cc
    by errors.Malformed (Err f) e = cc
    by (errors.Unsupported what) (Ok x) f = absurd cc
    by (errors.Unsupported what) (Err f) e = cc
    by errors.TooLarge r f = absurd f
    by errors.OutOfMemory r f = tt
