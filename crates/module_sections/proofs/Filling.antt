-- What is gathered from the entries of a module, one after another: what was gathered, with what
-- the remaining entries give, is always all.
use Rattle.std.proofs.Common.{◌≡◌, ◌≤◌, ℕ, Option, Some, None, List, [], ◌∷◌, ◌++◌, length, map, All, sym, subst, append_assoc, arith}
use Rattle.std.specs.Prelude.{IfSome}
use Rattle.std.specs.List.{filter_map, cons_option}
use Rattle.std.proofs.lemmas.List.{append-nil, map_push}
use Rattle.std.proofs.lemmas.List.Elements.{All-nil, All-cons, All-head, All-tail, All-same}
use Rattle.module_sections.specs.EscapeLog.{EscapeLog, after_escapes}
use Rattle.module_sections.proofs.NotingEscapes.{after_escapes-append}

-- one part more is added from the remaining entries
pub added_more : {A : Type 0} (now after one left rest all : List A) → after ≡ now ++ one → left ≡ one ++ rest → now ++ left ≡ all → after ++ rest ≡ all
added_more now after one left rest all added parts before = cc (append_assoc now one rest)

-- and one part more of the references
pub noted_more : (now after all : EscapeLog) (one left rest : List ℕ) → after ≡ after_escapes now one → left ≡ one ++ rest → after_escapes now left ≡ all
    → after_escapes after rest ≡ all
noted_more now after all one left rest noted parts before = cc (after_escapes-append now one rest)

module _ {X : Type 0} (left rest : List X) (x : X) (at : left ≡ x ∷ rest) where
  -- what is made of one entry more
  pub made_more : {Z W : Type 0} (seen : Z → W) (made : X → W) (now after : List Z) (z : Z) (all : List W) → seen z ≡ made x → after ≡ now ++ z ∷ []
      → map seen now ++ map made left ≡ all → map seen after ++ map made rest ≡ all
  made_more seen made now after z all is pushed before = cc (map_push seen now z, append_assoc (map seen now) (seen z ∷ []) (map made rest))

  -- what holds of all remaining entries, by the number of the functions, which references do not
  -- change
  pub here_still : (P : ℕ → X → Type 0) (start now : ℕ) → now ≡ start → All (P start) left → P now x
  here_still P start now same all = subst (λ (n : ℕ). P n x) (sym same) (All-head (P start) x rest (All-same (P start) (x ∷ rest) left (sym at) all))

  -- those that were read, and one more
  pub came_more : (came all : List X) → came ++ left ≡ all → (came ++ x ∷ []) ++ rest ≡ all
  came_more came all whole = cc (append_assoc came (x ∷ []) rest)

-- where none remains, all were read
pub came_all : {X : Type 0} (came left all : List X) → left ≡ [] → came ++ left ≡ all → came ≡ all
came_all came left all none whole = cc (append-nil came)

-- no more is gathered than there are entries
pub length-filter_map : {X Y : Type 0} (f : X → Option Y) (xs : List X) → length (filter_map f xs) ≤ length xs
length-filter_map f [] = omega arith
length-filter_map f (x ∷ xs) = grind (arith, length-filter_map f xs)

-- what holds of all that is gathered
pub All-gathered : {X Y : Type 0} (P : Y → Type 0) (f : X → Option Y) (xs : List X) → All (λ x. IfSome (f x) P) xs → All P (filter_map f xs)
All-gathered P f [] h = All-nil P
All-gathered {Y = Y} P f (x ∷ xs) h = by (f x) (All-head (λ y. IfSome (f y) P) x xs h) (All-gathered P f xs (All-tail (λ y. IfSome (f y) P) x xs h)) where
  by : (o : Option Y) → IfSome o P → All P (filter_map f xs) → All P (cons_option o (filter_map f xs))
  by None h rest = rest
  by (Some y) h rest = All-cons P y (filter_map f xs) h rest
