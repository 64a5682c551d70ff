-- The results for imports, one after another.
use Rattle.std.proofs.Common.{◌≡◌, ◌≤◌, ◌+◌, ℕ, zero, suc, List, [], ◌∷◌, ◌++◌, length, map, drop, slice_get, Option, Some, None, Result, Ok, Err, Vec, Global, refl, sym, ap, ◌∙◌, inl, inr, arith}
use Rattle.std.specs.Prelude.{◌⊎◌, IsSomeAnd, IsOk, IfOk}
use Rattle.std.specs.List.{enumerate_from, AllZip}
use Rattle.std.specs.Option.{option_map}
use Rattle.std.proofs.lemmas.Option.{none-some, same_Some, slice_get-map, slice_get_within, get_or_from_slice_get}
use Rattle.std.proofs.lemmas.List.{append-nil, append_assoc, drop_more, drop_all}
use Rattle.wasm_types.specs.declared.entity.EntityType.{EntityType}
use Rattle.import_match.specs.declared.error.LinkError.{LinkError}
use Rattle.import_match.specs.declared.error.LinkError.TheVariants as error
use Rattle.import_match.specs.declared.error.Mismatch.{Mismatch}
use Rattle.import_match.specs.Rules.{mismatch}
use Rattle.import_match.specs.Definitions.{Definition, TwoNames, found}
use Rattle.import_match.specs.Resolving.{IsAnswer, IsAnswerAt, judged, answer_at, answer_to, answers, with_value, all_values, resolved, IsMatched, IsGiven, IsReached, IsMissing, IsMismatched, AreMatched, AreGiven}
use Rattle.import_match.specs.Refusals.{ComesExactly, IsOutOfMemory}

abbrev pub Answer : Type 0
Answer = Result ℕ LinkError

abbrev pub Answers : Type 0
Answers = Result (List ℕ) LinkError

-- ---- one import

-- what the results for one import say of what was found
ok-found : (i : ℕ) (want : EntityType) (o : Option (ℕ × EntityType)) (k : ℕ) → answer_at i want o ≡ Ok k
    → IsSomeAnd o (λ (have : ℕ × EntityType). (have.0 ≡ k) × (mismatch have.1 want ≡ None))
ok-found i want o k e = grind arith

pub missing-found : (i : ℕ) (want : EntityType) (o : Option (ℕ × EntityType)) (j : ℕ) → answer_at i want o ≡ Err (error.Missing j) → (i ≡ j) × (o ≡ None)
missing-found i want o j e = grind arith

pub mismatch-found : (i : ℕ) (want : EntityType) (o : Option (ℕ × EntityType)) (j : ℕ) (x : Mismatch) → answer_at i want o ≡ Err (error.Mismatch j x)
    → (i ≡ j) × IsSomeAnd o (λ (have : ℕ × EntityType). mismatch have.1 want ≡ Some x)
mismatch-found i want o j x e = grind arith

pub found-mismatch : (i : ℕ) (want : EntityType) (o : Option (ℕ × EntityType)) (x : Mismatch)
    → IsSomeAnd o (λ (have : ℕ × EntityType). mismatch have.1 want ≡ Some x) → answer_at i want o ≡ Err (error.Mismatch i x)
found-mismatch i want o x h = grind arith

-- only a missing definition or one that does not match is reported of an import
abbrev pub IsOfImport : LinkError → Type 0
IsOfImport (error.Missing i) = Unit {0}
IsOfImport (error.Mismatch i x) = Unit {0}
IsOfImport _ = ⊥

pub error-of_import : (i : ℕ) (want : EntityType) (o : Option (ℕ × EntityType)) (e : LinkError) → answer_at i want o ≡ Err e → IsOfImport e
error-of_import i want o e is = grind arith

-- ---- imports in order

-- the result for a first import and for those after it
abbrev pub after : Answer → Answers → Answers
after (Ok k) rest = with_value k rest
after (Err e) rest = Err e

-- with the earlier results
abbrev pub before_all : List ℕ → Answers → Answers
before_all ks (Ok others) = Ok (ks ++ others)
before_all ks (Err e) = Err e

one-more : (ks : List ℕ) (k : ℕ) (r : Answers) → before_all (ks ++ k ∷ []) r ≡ before_all ks (with_value k r)
one-more ks k r = grind (arith, append_assoc)

-- an item at a position, with its number
slice_get-enumerate_from : {X : Type 0} (n : ℕ) (xs : List X) (i : ℕ) → slice_get (enumerate_from n xs) i ≡ option_map (λ (x : X). (n + i, x)) (slice_get xs i)
slice_get-enumerate_from n [] i = refl
slice_get-enumerate_from {X} n (x ∷ xs) zero = let plus : n ≡ n + 0 = omega arith in ap (λ (m : ℕ). Some (m, x)) plus
slice_get-enumerate_from {X} n (x ∷ xs) (suc i) = grind (arith, (slice_get-enumerate_from (n + 1) xs i))

-- the remaining imports, from one on
left : (ws : List Definition) (i : ℕ) (w : Definition) → slice_get ws i ≡ Some w → drop i ws ≡ w ∷ drop (i + 1) ws
left ws i w at = drop_more ws i w (slice_get_within ws i w at) ∙ ap (λ y. y ∷ drop (i + 1) ws) (get_or_from_slice_get ws i w w at)

module _ (ds : List Definition) where
  -- the result for imports whose positions begin at a number
  abbrev pub run : ℕ → List Definition → Answers
  run n ws = all_values (map (answer_to ds) (enumerate_from n ws))

  pub run-cons : (n : ℕ) (w : Definition) (ws : List Definition) → run n (w ∷ ws) ≡ after (answer_to ds (n, w)) (run (n + 1) ws)
  run-cons n w ws = grind arith

  matched-ok : (n : ℕ) (w : Definition) (k : ℕ) → answer_to ds (n, w) ≡ Ok k → IsMatched ds w
  matched-ok n w k is = grind (arith, ok-found)

  ok-matched : (n : ℕ) (w : Definition) → IsMatched ds w → (k : ℕ) × (answer_to ds (n, w) ≡ Ok k)
  ok-matched n w is = by (found ds w.0) is
    where
      by : (o : Option (ℕ × EntityType)) → IsSomeAnd o (λ (have : ℕ × EntityType). mismatch have.1 w.1 ≡ None) → (k : ℕ) × (answer_at n w.1 o ≡ Ok k)
      by None h = absurd h
      by (Some have) h = (have.0, ap (judged n have.0) h)

  -- an import that is reached after one that is matched
  later : (w : Definition) (ws : List Definition) (j : ℕ) (want : Definition) → IsMatched ds w → IsReached ds ws j want → IsReached ds (w ∷ ws) (suc j) want
  later w ws j want is r = grind (arith, same_Some)

  -- an import at which the result is an error is the first such
  pub failed : (n : ℕ) (ws : List Definition) (e : LinkError) → run n ws ≡ Err e
      → (j : ℕ) × (want : Definition) × IsReached ds ws j want × (answer_to ds (n + j, want) ≡ Err e)
  failed n [] e is = absurd cc
  failed n (w ∷ ws) e is = by (answer_to ds (n, w)) refl (sym (run-cons n w ws) ∙ is) (failed (n + 1) ws e)
    where
      rest : (r : Answers) (k : ℕ) → with_value k r ≡ Err e → r ≡ Err e
      rest (Ok ks) k h = absurd cc
      rest (Err x) k h = cc

      by : (a : Answer) → answer_to ds (n, w) ≡ a → after a (run (n + 1) ws) ≡ Err e
          → (run (n + 1) ws ≡ Err e → (j : ℕ) × (want : Definition) × IsReached ds ws j want × (answer_to ds (n + 1 + j, want) ≡ Err e))
          → (j : ℕ) × (want : Definition) × IsReached ds (w ∷ ws) j want × (answer_to ds (n + j, want) ≡ Err e)
      by (Err x) at h others =
          let same : x ≡ e = cc in
          let zero-more : n + 0 ≡ n = omega arith in
          (0, w, record { at = refl; before = λ i other less here. absurd (omega (arith, less)) }, ap (λ m. answer_to ds (m, w)) zero-more ∙ at ∙ ap (λ y. Err y) same)
      by (Ok k) at h others =
          let f = others (rest (run (n + 1) ws) k h) in
          let more : n + suc f.0 ≡ n + 1 + f.0 = omega arith in
          (suc f.0, f.1, later w ws f.0 f.1 (matched-ok n w k at) f.2, ap (λ m. answer_to ds (m, f.1)) more ∙ f.3)

  pub fails : (n : ℕ) (ws : List Definition) (e : LinkError) (j : ℕ) (want : Definition) → IsReached ds ws j want → answer_to ds (n + j, want) ≡ Err e
      → run n ws ≡ Err e
  fails n [] e j want r is = absurd (none-some want r.at)
  fails n (w ∷ ws) e zero want r is = grind (arith, same_Some w want r.at, run-cons n w ws)
  fails n (w ∷ ws) e (suc j) want r is =
      let ok = ok-matched n w (r.before 0 w (omega arith) refl) in
      let more : n + 1 + j ≡ n + suc j = omega arith in
      let rest = fails (n + 1) ws e j want (record { at = r.at; before = λ i other less at. r.before (suc i) other (omega (arith, less)) at })
      (ap (λ m. answer_to ds (m, want)) more ∙ is) in
      run-cons n w ws ∙ ap (λ a. after a (run (n + 1) ws)) ok.1 ∙ ap (with_value ok.0) rest

  pub given : (n : ℕ) (ws : List Definition) (ks : List ℕ) → run n ws ≡ Ok ks → AllZip (IsGiven ds) ws ks
  given n [] [] is = tt
  given n [] (k ∷ ks) is = absurd cc
  given n (w ∷ ws) ks is = grind (arith, run-cons, ok-found, (given (n + 1) ws))

  pub all-matched : (n : ℕ) (ws : List Definition) → AreMatched ds ws → (ks : List ℕ) × (run n ws ≡ Ok ks)
  all-matched n [] all = ([], refl)
  all-matched n (w ∷ ws) all = grind (arith, ok-matched n w (all 0 w refl), all-matched (n + 1) ws (λ i want at. all (suc i) want at), run-cons n w ws)

  -- ---- the result for the import at a position

  pub answer-is : (i : ℕ) (names n : TwoNames) (want t : EntityType) → names ≡ n → want ≡ t
      → answer_at i want (found ds names) ≡ answer_to ds (i, (n, t))
  answer-is i names n want t same alike = λ j. answer_at i (alike j) (found ds (same j))

  pub answers-at : (ws : List Definition) (i : ℕ) (w : Definition) → slice_get ws i ≡ Some w → slice_get (answers ds ws) i ≡ Some (answer_to ds (i, w))
  answers-at ws i w h4 = grind (arith, slice_get-map, slice_get-enumerate_from)

  pub answer-at : (ws : List Definition) (i : ℕ) (r : Answer) → slice_get (answers ds ws) i ≡ Some r
      → (w : Definition) × (slice_get ws i ≡ Some w) × (answer_to ds (i, w) ≡ r)
  answer-at ws i r is = grind (arith, slice_get-map, slice_get-enumerate_from, none-some, same_Some, answers-at)

  -- an error in it is of an import
  pub answer-at-of_import : (ws : List Definition) (i : ℕ) (r : Answer) → IsAnswerAt r ds ws i → (e : LinkError) → (e ≡ error.OutOfMemory → ⊥) → r ≡ Err e
      → IsOfImport e
  answer-at-of_import ws i r (inl none) e other is = grind arith
  answer-at-of_import ws i r (inr told) e other is = grind (arith, answer-at, told, error-of_import)

  -- ---- the import at a position, once those before it have results
  module _ (ws : List Definition) (i : ℕ) (ks : List ℕ) (is : before_all ks (run i (drop i ws)) ≡ run 0 ws) where
    here : (w : Definition) → slice_get ws i ≡ Some w → before_all ks (after (answer_to ds (i, w)) (run (i + 1) (drop (i + 1) ws))) ≡ run 0 ws
    here w at = ap (before_all ks) (sym (run-cons i w (drop (i + 1) ws)) ∙ ap (run i) (sym (left ws i w at))) ∙ is

    pub stops : (e : LinkError) → slice_get (answers ds ws) i ≡ Some (Err e) → run 0 ws ≡ Err e
    stops e told =
        let a = answer-at ws i (Err e) told in
        sym (here a.0 a.1) ∙ ap (λ r. before_all ks (after r (run (i + 1) (drop (i + 1) ws)))) a.2

    pub goes-on : (k : ℕ) → slice_get (answers ds ws) i ≡ Some (Ok k) → before_all (ks ++ k ∷ []) (run (i + 1) (drop (i + 1) ws)) ≡ run 0 ws
    goes-on k told =
        let a = answer-at ws i (Ok k) told in
        let rest = run (i + 1) (drop (i + 1) ws) in
        one-more ks k rest ∙ ap (λ r. before_all ks (after r rest)) (sym a.2) ∙ here a.0 a.1

    pub ends : length ws ≤ i → run 0 ws ≡ Ok ks
    ends past = sym is ∙ ap (λ l. before_all ks (run i l)) (drop_all i ws past) ∙ ap (λ m. Ok m) (append-nil ks)

-- ---- the result of a call that gives the numbers, or the first error, or has no memory

abbrev pub Found : Type 0
Found = Result (Vec ℕ Global) LinkError

module _ (ds wants : List Definition) where
  pub answer-given : (r : Found) → IsAnswer r (resolved ds wants) → IfOk r (λ v. AreGiven ds wants v.items)
  answer-given r a = grind (arith, given)

  pub answer-complete : (r : Found) → IsAnswer r (resolved ds wants) → AreMatched ds wants → IsOk r ⊎ IsOutOfMemory r
  answer-complete (Ok v) a matched = inl refl
  answer-complete (Err e) (inl none) matched = inr none
  answer-complete (Err e) (inr is) matched = let ok = (all-matched ds 0 wants matched).1 in absurd cc

  -- an error is reported exactly where it is the result, unless there is no memory
  told : (r : Found) → IsAnswer r (resolved ds wants) → (e : LinkError) → (e ≡ error.OutOfMemory → ⊥) → r ≡ Err e → resolved ds wants ≡ Err e
  told r h2 e other is = grind arith

  tells : (r : Found) → IsAnswer r (resolved ds wants) → (e : LinkError) → resolved ds wants ≡ Err e → (r ≡ Err e) ⊎ (r ≡ Err error.OutOfMemory)
  tells r h2 e is = grind arith

  missing-is : (i : ℕ) → resolved ds wants ≡ Err (error.Missing i) → IsMissing ds wants i
  missing-is i is = grind (arith, failed, missing-found)

  is-missing : (i : ℕ) → IsMissing ds wants i → resolved ds wants ≡ Err (error.Missing i)
  is-missing i m =
      let place : 0 + i ≡ i = omega arith in
      fails ds 0 wants (error.Missing i) i m.want m.reached
      (ap (answer_at (0 + i) m.want.1) m.missing ∙ ap (λ k. Err (error.Missing k)) place)

  mismatch-is : (i : ℕ) (x : Mismatch) → resolved ds wants ≡ Err (error.Mismatch i x) → IsMismatched ds wants i x
  mismatch-is i x is = grind (arith, failed, mismatch-found)

  is-mismatch : (i : ℕ) (x : Mismatch) → IsMismatched ds wants i x → resolved ds wants ≡ Err (error.Mismatch i x)
  is-mismatch i x m = grind (arith, fails, found-mismatch (0 + i) m.want.1 (found ds m.want.0) x m.broken)

  pub answer-missing : (r : Found) → IsAnswer r (resolved ds wants) → (i : ℕ) → ComesExactly r (error.Missing i) (IsMissing ds wants i)
  answer-missing r a i = record {
    caused = λ is. missing-is i (told r a (error.Missing i) (λ h. absurd cc) is);
    comes = λ m. tells r a (error.Missing i) (is-missing i m);
  }

  pub answer-mismatch : (r : Found) → IsAnswer r (resolved ds wants) → (i : ℕ) (x : Mismatch) → ComesExactly r (error.Mismatch i x) (IsMismatched ds wants i x)
  answer-mismatch r a i x = record {
    caused = λ is. mismatch-is i x (told r a (error.Mismatch i x) (λ h. absurd cc) is);
    comes = λ m. tells r a (error.Mismatch i x) (is-mismatch i x m);
  }

  pub answer-of_import : (r : Found) → IsAnswer r (resolved ds wants) → (e : LinkError) → (e ≡ error.OutOfMemory → ⊥) → r ≡ Err e → IsOfImport e
  answer-of_import r a e other is = grind (arith, failed, told, error-of_import)
