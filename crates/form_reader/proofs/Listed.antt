-- Entries that stay in the input: what a loop reads is what is listed, and how the first is taken.
use Rattle.std.proofs.Common.{◌≡◌, ℕ, zero, suc, ◌+◌, ◌-◌, ◌<◌, ◌≤◌, List, [], ◌∷◌, ◌++◌, length, map, Result, Ok, Err, refl, sym, ap, subst, ◌∙◌, arith}
use Rattle.form_reader.specs.Reading.{Reader, Fails, and_then, Fault, Bad, Stops, elements_at, ◌>>=◌, gives_at}
use Rattle.form_reader.specs.declared.error.ReadError.{ReadError}
use Rattle.form_reader.specs.declared.error.ReadError.TheVariants as errors
use Rattle.form_reader.specs.Input.{listed, listed_after}
use Rattle.form_reader.proofs.Loop.{with_front, all_so_far, one_more, all_read}

-- some entries were read, and these bytes remain
pub record SoFar {A : Type 0} (read : Reader A) (n i : ℕ) (start now : List ℕ) : Type 0 where
  pub front : List A
  pub so_far : with_front front (elements_at read (n - i) now) ≡ elements_at read n start

-- and something holds of what was read
pub record HoldsSoFar {A : Type 0} (read : Reader A) (n i : ℕ) (start now : List ℕ) (T : List A → Type 0) : Type 0 where
  pub so_far : SoFar read n i start now
  pub holds : T so_far.front

-- the error is in the bytes, not in memory
abbrev pub IsFault : ReadError → Type 0
IsFault errors.OutOfMemory = ⊥
IsFault _ = Unit {0}

module _ {A : Type 0} (read : Reader A) where
  pub none_yet : (n : ℕ) (bytes : List ℕ) → SoFar read n 0 bytes bytes
  none_yet n bytes = record { front = []; so_far = let k : n - 0 ≡ n = omega arith in rw k (all_so_far (elements_at read n bytes)) }

  pub further : (n i : ℕ) (start now rest : List ℕ) (x : A) → i < n → read now ≡ Ok (x, rest) → SoFar read n i start now → SoFar read n (i + 1) start rest
  further n i start now rest x l e s = record { front = s.front ++ x ∷ []; so_far = one_more read n i s.front x now rest _ l e s.so_far }

  pub none_holds : (n : ℕ) (bytes : List ℕ) (T : List A → Type 0) → T [] → HoldsSoFar read n 0 bytes bytes T
  unfolding none_yet
  none_holds n bytes T none = record { so_far = none_yet n bytes; holds = none }

  pub further_holds : (n i : ℕ) (start now rest : List ℕ) (x : A) (T T' : List A → Type 0) → i < n → read now ≡ Ok (x, rest)
      → ((front : List A) → T front → T' (front ++ x ∷ [])) → HoldsSoFar read n i start now T → HoldsSoFar read n (i + 1) start rest T'
  unfolding further
  further_holds n i start now rest x T T' l e more s = record {
    so_far = further n i start now rest x l e s.so_far;
    holds = more s.so_far.front s.holds;
  }

  first_of : Result (List A × List ℕ) Fault → List A
  first_of (Ok x) = x.0
  first_of (Err f) = []

  others_listed : (n : ℕ) → ((bytes rest : List ℕ) (xs : List A) → elements_at read n bytes ≡ Ok (xs, rest) → xs ≡ listed read n bytes)
      → (x : A × List ℕ) (rest : List ℕ) (xs : List A) (q : Result (List A × List ℕ) Fault) → elements_at read n x.1 ≡ q
      → and_then {B = List A × List ℕ} q (λ ys. Ok (x.0 ∷ ys.0, ys.1)) ≡ Ok (xs, rest) → xs ≡ x.0 ∷ listed read n x.1
  unfolding first_of
  others_listed n before x rest xs (Ok ys) is e =
      let same : ys.0 ≡ listed read n x.1 = before x.1 ys.1 ys.0 is in
      let all : xs ≡ x.0 ∷ ys.0 = sym (ap first_of e) in
      rw (sym same) all
  others_listed n before x rest xs (Err f) is e = absurd cc

  all_listed : (n : ℕ) → ((bytes rest : List ℕ) (xs : List A) → elements_at read n bytes ≡ Ok (xs, rest) → xs ≡ listed read n bytes)
      → (rest : List ℕ) (xs : List A) (r : Result (A × List ℕ) Fault)
      → and_then {B = List A × List ℕ} r (λ x. and_then {B = List A × List ℕ} (elements_at read n x.1) (λ ys. Ok (x.0 ∷ ys.0, ys.1))) ≡ Ok (xs, rest)
      → xs ≡ listed_after r (listed read n)
  all_listed n before rest xs (Ok x) e = others_listed n before x rest xs (elements_at read n x.1) refl e
  all_listed n before rest xs (Err f) e = absurd cc

  -- where all are read, they are the listed ones
  whole_list : (n : ℕ) (bytes rest : List ℕ) (xs : List A) → elements_at read n bytes ≡ Ok (xs, rest) → xs ≡ listed read n bytes
  unfolding elements_at listed first_of
  whole_list zero bytes rest xs e = sym (ap first_of e)
  whole_list (suc n) bytes rest xs e = all_listed n (whole_list n) rest xs (read bytes) e

  -- in the end all are read, and they are the listed ones
  front_listed : (n i : ℕ) (start now : List ℕ) → n ≤ i → (s : SoFar read n i start now) → s.front ≡ listed read n start
  front_listed n i start now l s = whole_list n start now s.front (all_read read n i s.front now _ l s.so_far)

  pub at_end : (n i : ℕ) (start now : List ℕ) → n ≤ i → SoFar read n i start now → elements_at read n start ≡ Ok (listed read n start, now)
  at_end n i start now l s = rw (sym (front_listed n i start now l s)) (all_read read n i s.front now _ l s.so_far)

  pub holds_at_end : (n i : ℕ) (start now : List ℕ) (T : List A → Type 0) → n ≤ i → HoldsSoFar read n i start now T → T (listed read n start)
  holds_at_end n i start now T l s = subst T (front_listed n i start now l s.so_far) s.holds

  -- ---- how many there are

  few_after : (n : ℕ) → ((bytes : List ℕ) → length (listed read n bytes) ≤ n) → (r : Result (A × List ℕ) Fault)
      → length (listed_after r (listed read n)) ≤ suc n
  few_after n others (Ok x) = let le = others x.1 in omega (arith, le)
  few_after n others (Err f) = omega arith

  pub listed_few : (n : ℕ) (bytes : List ℕ) → length (listed read n bytes) ≤ n
  unfolding listed
  listed_few zero bytes = omega arith
  listed_few (suc n) bytes = few_after n (listed_few n) (read bytes)

  -- ---- a part of each

  module _ {B : Type 0} (part : A → B) where
    parts_after : (n : ℕ) → ((bytes : List ℕ) → listed (read >>= λ x. gives_at (part x)) n bytes ≡ map part (listed read n bytes))
        → (r : Result (A × List ℕ) Fault) → listed_after (and_then r (λ x. Ok (part x.0, x.1))) (listed (read >>= λ x. gives_at (part x)) n) ≡ map part (listed_after r (listed read n))
    parts_after n others (Ok x) = ap (λ xs. part x.0 ∷ xs) (others x.1)
    parts_after n others (Err f) = refl

    pub parts_listed : (n : ℕ) (bytes : List ℕ) → listed (read >>= λ x. gives_at (part x)) n bytes ≡ map part (listed read n bytes)
    unfolding listed
    parts_listed zero bytes = refl
    parts_listed (suc n) bytes = parts_after n (parts_listed n) (read bytes)

  -- ---- the first of them

  pub taken_at : (m : ℕ) (bytes rest : List ℕ) (x : A) → read bytes ≡ Ok (x, rest) → listed read (suc m) bytes ≡ x ∷ listed read m rest
  unfolding listed
  taken_at m bytes rest x e = rw e refl

  pub first_taken : (n : ℕ) (bytes rest : List ℕ) (x : A) → (n ≡ 0 → ⊥) → read bytes ≡ Ok (x, rest) → listed read n bytes ≡ x ∷ listed read (n - 1) rest
  first_taken n bytes rest x some e =
      let k : n ≡ suc (n - 1) = omega (arith, some) in
      ap (λ m. listed read m bytes) k ∙ taken_at (n - 1) bytes rest x e

  none_at : (m : ℕ) (bytes : List ℕ) (fault : Fault) → read bytes ≡ Err fault → listed read (suc m) bytes ≡ []
  unfolding listed
  none_at m bytes fault e = rw e refl

  pub none_taken : (n : ℕ) (bytes : List ℕ) (fault : Fault) → (n ≡ 0 → ⊥) → read bytes ≡ Err fault → listed read n bytes ≡ []
  none_taken n bytes fault some e =
      let k : n ≡ suc (n - 1) = omega (arith, some) in
      ap (λ m. listed read m bytes) k ∙ none_at (n - 1) bytes fault e

  pub none_there : (n : ℕ) (bytes : List ℕ) → n ≡ 0 → listed read n bytes ≡ []
  unfolding listed
  none_there n bytes e = rw e refl

  -- where the next one cannot be read, though there is memory, no more are listed
  pub none_read : (n : ℕ) (bytes : List ℕ) (e d : ReadError) → (n ≡ 0 → ⊥) → e ≡ d → IsFault d → Fails e (read bytes) → listed read n bytes ≡ []
  none_read n bytes e d some is fault f = by d fault (subst (λ x. Fails x (read bytes)) is f) where
    by : (d : ReadError) → IsFault d → Fails d (read bytes) → listed read n bytes ≡ []
    by errors.Malformed fault f = none_taken n bytes Bad some f
    by (errors.Unsupported what) fault f = none_taken n bytes (Stops what) some f
    by errors.TooLarge fault f = absurd f
    by errors.OutOfMemory fault f = absurd fault
