-- Elements by their index.
use Rattle.std.proofs.Common.{◌≡◌, ℕ, ◌+◌, List, [], ◌∷◌, ◌++◌, map, ap, sym, ◌∙◌, append_assoc, arith}
use Rattle.std.specs.List.{flat_map, range_with_len}
use Rattle.std.proofs.lemmas.List.{append-nil}
use Rattle.std.proofs.lemmas.List.FromFn.{map-range_with_len_more}
use Rattle.std.proofs.lemmas.List.Folds.{flat_map-map}
use Rattle.std.proofs.lemmas.Grind.{flat_map-append}

-- one element more
pub one_more : (f : ℕ → List ℕ) (k : ℕ) → flat_map f (range_with_len 0 (k + 1)) ≡ flat_map f (range_with_len 0 k) ++ f k
one_more f k =
    sym (flat_map-map (λ (x : List ℕ). x) f (range_with_len 0 (k + 1)))
    ∙ ap (flat_map (λ (x : List ℕ). x)) (map-range_with_len_more f 0 k k (omega arith))
    ∙ flat_map-append (λ (x : List ℕ). x) (map f (range_with_len 0 k)) (f k ∷ [])
    ∙ ap (λ front. front ++ (f k ++ [])) (flat_map-map (λ (x : List ℕ). x) f (range_with_len 0 k))
    ∙ ap (λ last. flat_map f (range_with_len 0 k) ++ last) (append-nil (f k))

-- one parameter more
pub one_number_more : (f : ℕ → ℕ) (k : ℕ) → map f (range_with_len 0 (k + 1)) ≡ map f (range_with_len 0 k) ++ f k ∷ []
one_number_more f k = map-range_with_len_more f 0 k k (omega arith)

-- the next element is written after those before it
pub next-place : (f : ℕ → List ℕ) (k : ℕ) (front old new : List ℕ) → old ≡ front ++ flat_map f (range_with_len 0 k) → new ≡ old ++ f k
    → new ≡ front ++ flat_map f (range_with_len 0 (k + 1))
next-place f k front old new before written =
    written ∙ ap (λ bytes. bytes ++ f k) before ∙ append_assoc front (flat_map f (range_with_len 0 k)) (f k)
    ∙ ap (λ bytes. front ++ bytes) (sym (one_more f k))

-- the next number is written after those before it
pub next-number : (f : ℕ → ℕ) (k number : ℕ) (front old new : List ℕ) → old ≡ front ++ map f (range_with_len 0 k) → number ≡ f k
    → new ≡ old ++ number ∷ [] → new ≡ front ++ map f (range_with_len 0 (k + 1))
next-number f k number front old new before is written =
    written ∙ ap (λ bytes. bytes ++ number ∷ []) before ∙ append_assoc front (map f (range_with_len 0 k)) (number ∷ [])
    ∙ ap (λ n. front ++ (map f (range_with_len 0 k) ++ n ∷ [])) is ∙ ap (λ bytes. front ++ bytes) (sym (one_number_more f k))

-- two bytes, a middle and an end, written one after another
pub framed : (a b : ℕ) (middle last old first second new : List ℕ) → first ≡ old ++ a ∷ b ∷ [] → second ≡ first ++ middle → new ≡ second ++ last
    → new ≡ old ++ ((a ∷ b ∷ middle) ++ last)
framed a b middle last old first second new begun continued ended =
    ended ∙ ap (λ bytes. bytes ++ last) (continued ∙ ap (λ bytes. bytes ++ middle) begun ∙ append_assoc old (a ∷ b ∷ []) middle)
    ∙ append_assoc old (a ∷ b ∷ middle) last

-- and two bytes more before the end
pub framed-twice : (a b c d : ℕ) (middle last old first second third new : List ℕ) → first ≡ old ++ a ∷ b ∷ [] → second ≡ first ++ middle
    → third ≡ second ++ c ∷ d ∷ [] → new ≡ third ++ last → new ≡ old ++ ((a ∷ b ∷ middle) ++ (c ∷ d ∷ last))
framed-twice a b c d middle last old first second third new begun continued framed_again ended =
    framed a b middle (c ∷ d ∷ last) old first second new begun continued
    (ended ∙ ap (λ bytes. bytes ++ last) framed_again ∙ append_assoc second (c ∷ d ∷ []) last)
