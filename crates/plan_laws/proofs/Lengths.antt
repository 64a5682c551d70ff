use Rattle.std.proofs.Common.{◌≡◌, ℕ, ◌+◌, ◌*◌, ◌^◌, ◌<◌, ◌≤◌, List, [], ◌∷◌, ◌++◌, length, suc, refl, ap, arith, length-append}
use Rattle.std.specs.Prelude.{codes, decimal, ℤ, pos, negsuc, All, sum_by}
use Rattle.std.specs.List.{flat_map}
use Rattle.std.specs.Fmt.{signed_decimal}
use Rattle.wasm_types.specs.Texts.{spaced}
use Rattle.std.specs.Int.{w32, w64}
use Rattle.std.specs.Int.RustNames.{FitsSigned}
use Rattle.std.proofs.lemmas.Fmt.{length-decimal-le, length_signed_le}
use Rattle.std.proofs.lemmas.List.Elements.{All-nil, All-cons, All-head, All-tail, All-weaker}
use Rattle.std.proofs.lemmas.List.Sums.{sum_by-cons}
use Rattle.entity_map.specs.Keyed.{keyed, keyed_from}
use Rattle.wasm_index.specs.declared.index.Index.{Index}
use Rattle.wasm_index.specs.Index.{number_of, index_of}

pub decimal-narrow : (n : ℕ) → n < 2 ^ 32 → length (decimal n) ≤ 10
decimal-narrow n h = length-decimal-le 10 n (omega arith) (omega arith) (omega arith)

pub decimal-wide : (n : ℕ) → n < 2 ^ 64 → length (decimal n) ≤ 20
decimal-wide n h = length-decimal-le 20 n (omega arith) (omega arith) (omega arith)

pub signed-narrow : (z : ℤ) → FitsSigned w32 z → length (signed_decimal z) ≤ 11
signed-narrow (pos n) h = length_signed_le 10 (pos n) (omega arith) (omega arith)
signed-narrow (negsuc n) h = length_signed_le 10 (negsuc n) (omega arith) (omega arith)

pub signed-wide : (z : ℤ) → FitsSigned w64 z → length (signed_decimal z) ≤ 20
signed-wide (pos n) h = length_signed_le 19 (pos n) (omega arith) (omega arith)
signed-wide (negsuc n) h = length_signed_le 19 (negsuc n) (omega arith) (omega arith)

-- at most some bytes for each item, and some more for each of its parts
pub flat-short : {X : Type 0} (f : X → List ℕ) (parts : X → ℕ) (a b : ℕ) (xs : List X) → All (λ x. length (f x) ≤ a + b * parts x) xs
    → length (flat_map f xs) ≤ a * length xs + b * sum_by parts xs
flat-short f parts a b [] h = omega arith
flat-short f parts a b (x ∷ xs) h =
    let one : length (f x) ≤ a + b * parts x = All-head (λ x. length (f x) ≤ a + b * parts x) x xs h in
    let others : length (flat_map f xs) ≤ a * length xs + b * sum_by parts xs
    = flat-short f parts a b xs (All-tail (λ x. length (f x) ≤ a + b * parts x) x xs h) in
    rw (sum_by-cons parts x xs) (simp length-append (omega (arith, one, others)))

module _ {Space X : Type 0} (line : Index Space → X → List ℕ) (parts : X → ℕ) (a b : ℕ) (P : X → Type 0) where
  abbrev entry : Index Space × X → List ℕ
  entry p = line p.0 p.1

  keyed-from : (n : ℕ) (xs : List X) → n + length xs ≤ 2 ^ 32
      → ((i : Index Space) (x : X) → number_of i < 2 ^ 32 → P x → length (line i x) ≤ a + b * parts x) → All P xs
      → length (flat_map entry (keyed_from index_of n xs)) ≤ a * length xs + b * sum_by parts xs
  keyed-from n [] few each all = omega arith
  keyed-from n (x ∷ xs) few each all =
      let one : length (line (index_of n) x) ≤ a + b * parts x = each (index_of n) x (omega arith) (All-head P x xs all) in
      let others : length (flat_map entry (keyed_from index_of (n + 1) xs)) ≤ a * length xs + b * sum_by parts xs
      = keyed-from (n + 1) xs (omega arith) each (All-tail P x xs all) in
      rw (sum_by-cons parts x xs) (simp length-append (omega (arith, one, others)))

  -- the same of lines that name the places of the items
  pub keyed-short : (xs : List X) → length xs < 2 ^ 32
      → ((i : Index Space) (x : X) → number_of i < 2 ^ 32 → P x → length (line i x) ≤ a + b * parts x) → All P xs
      → length (flat_map (λ (p : Index Space × X). line p.0 p.1) (keyed index_of xs)) ≤ a * length xs + b * sum_by parts xs
  keyed-short xs few each all = keyed-from 0 xs (omega arith) each all

pub append-short : (a b : List ℕ) (m n : ℕ) → length a ≤ m → length b ≤ n → length (a ++ b) ≤ m + n
append-short a b m n one other = simp length-append (omega (arith, one, other))

-- at most some bytes for each item
pub flat-each : {X : Type 0} (f : X → List ℕ) (a : ℕ) (xs : List X) → All (λ x. length (f x) ≤ a) xs → length (flat_map f xs) ≤ a * length xs
flat-each f a [] h = omega arith
flat-each f a (x ∷ xs) h =
    let one : length (f x) ≤ a = All-head (λ x. length (f x) ≤ a) x xs h in
    let others : length (flat_map f xs) ≤ a * length xs = flat-each f a xs (All-tail (λ x. length (f x) ≤ a) x xs h) in
    simp length-append (omega (arith, one, others))

-- the same with a space before each
pub spaced-each : {X : Type 0} (text : X → List ℕ) (a : ℕ) (xs : List X) → All (λ x. length (text x) ≤ a) xs → length (spaced text xs) ≤ (1 + a) * length xs
spaced-each text a xs h =
    flat-each (λ x. codes " " ++ text x) (1 + a) xs
    (All-weaker (λ x. length (text x) ≤ a) (λ x. length (codes " " ++ text x) ≤ 1 + a) (λ x short. simp length-append (omega (arith, short))) xs h)

-- what holds of the items of a keyed list holds of the items
module _ {K X : Type 0} (at : ℕ → K) (P : X → Type 0) where
  keyed-from-all : (n : ℕ) (xs : List X) → All (λ (p : K × X). P p.1) (keyed_from at n xs) → All P xs
  keyed-from-all n [] h = All-nil P
  keyed-from-all n (x ∷ xs) h =
      All-cons P x xs (All-head (λ (p : K × X). P p.1) (at n, x) (keyed_from at (n + 1) xs) h)
      (keyed-from-all (n + 1) xs (All-tail (λ (p : K × X). P p.1) (at n, x) (keyed_from at (n + 1) xs) h))

  pub keyed-all : (xs : List X) → All (λ (p : K × X). P p.1) (keyed at xs) → All P xs
  keyed-all xs h = keyed-from-all 0 xs h

length-keyed-from : {K X : Type 0} (at : ℕ → K) (n : ℕ) (xs : List X) → length (keyed_from at n xs) ≡ length xs
length-keyed-from at n [] = refl
length-keyed-from at n (x ∷ xs) = ap (λ k. suc k) (length-keyed-from at (n + 1) xs)

module _ {Space X : Type 0} (line : Index Space → X → List ℕ) (most : ℕ) where
  -- lines that name the places of the items, and list no parts
  pub keyed-plain : (P : X → Type 0) (xs : List X) → length xs < 2 ^ 32 → ((i : Index Space) (x : X) → number_of i < 2 ^ 32 → P x → length (line i x) ≤ most) → All P xs
      → length (flat_map (λ (p : Index Space × X). line p.0 p.1) (keyed index_of xs)) ≤ most * length xs
  keyed-plain P xs few each all =
      let short : length (flat_map (λ (p : Index Space × X). line p.0 p.1) (keyed index_of xs)) ≤ most * length xs + 0 * sum_by (λ (x : X). 0) xs
      = keyed-short line (λ x. 0) most 0 P xs few (λ i x h p. let one : length (line i x) ≤ most = each i x h p in omega (arith, one)) all in
      omega (arith, short)

  -- the same where each line is known with its place
  pub keyed-each : (xs : List X) → All (λ (p : Index Space × X). length (line p.0 p.1) ≤ most) (keyed index_of xs)
      → length (flat_map (λ (p : Index Space × X). line p.0 p.1) (keyed index_of xs)) ≤ most * length xs
  keyed-each xs all =
      let short : length (flat_map (λ (p : Index Space × X). line p.0 p.1) (keyed index_of xs)) ≤ most * length {A = Index Space × X} (keyed index_of xs)
      = flat-each (λ (p : Index Space × X). line p.0 p.1) most (keyed index_of xs) all in
      let same : length {A = Index Space × X} (keyed index_of xs) ≡ length xs = length-keyed-from index_of 0 xs in
      rw same at short

-- ---- pieces, one after another

pub lengths-3 : (a b c : List ℕ) → length (a ++ b ++ c) ≡ length a + length b + length c
lengths-3 a b c = simp length-append

pub lengths-4 : (a b c d : List ℕ) → length (a ++ b ++ c ++ d) ≡ length a + length b + length c + length d
lengths-4 a b c d = simp length-append

pub lengths-6 : (a b c d e f : List ℕ) → length (a ++ b ++ c ++ d ++ e ++ f) ≡ length a + length b + length c + length d + length e + length f
lengths-6 a b c d e f = simp length-append

pub lengths-7 : (a b c d e f g : List ℕ) → length (a ++ b ++ c ++ d ++ e ++ f ++ g) ≡ length a + length b + length c + length d + length e + length f + length g
lengths-7 a b c d e f g = simp length-append
