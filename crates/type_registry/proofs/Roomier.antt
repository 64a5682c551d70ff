-- What is kept remains so where there is capacity for more.
use Rattle.std.proofs.lemmas.Grind.{common_steps}
use Rattle.std.specs.Prelude.{[], replicate}
use Rattle.std.proofs.Common.{◌≡◌, ◌∙◌, ◌<◌, ℕ, zero, suc, ◌+◌, List, ◌∷◌, ◌++◌, length, map, slice_get, Option, Some, None, option_and_then, refl, sym, ap, arith}
use Rattle.std.proofs.lemmas.List.{length-append, length-replicate}
use Rattle.wasm_types.specs.declared.sub.WasmSubType.{WasmSubType}
use Rattle.free_numbers.specs.Counts.{IsCounts}
use Rattle.type_registry.specs.declared.owners.Owner.{Owner}
use Rattle.type_registry.specs.Registry.{Group, indices_of}
use Rattle.type_registry.specs.Owners.{free_count}
use Rattle.type_registry.specs.Keeping.{kept_from, AreKeptByKeys}

abbrev nothing : {A : Type 0} → Option A
nothing = None

-- nothing is at positions that are only capacity
room-at : {A : Type 0} (n f : ℕ) → option_and_then (λ (o : Option A). o) (slice_get (replicate n (nothing {A = A})) f) ≡ None
room-at zero f = refl
room-at (suc n) zero = refl
room-at {A = A} (suc n) (suc f) = room-at {A = A} n f

at-more : {A : Type 0} (xs : List (Option A)) (n f : ℕ)
    → option_and_then (λ (o : Option A). o) (slice_get (xs ++ replicate n nothing) f) ≡ option_and_then (λ (o : Option A). o) (slice_get xs f)
at-more {A = A} [] n f = room-at {A = A} n f
at-more (x ∷ xs) n zero = refl
at-more (x ∷ xs) n (suc f) = at-more xs n f

none-kept : (k n : ℕ) → kept_from k (replicate n nothing) ≡ []
none-kept k zero = refl
none-kept k (suc n) = none-kept (k + 1) n

pub kept-more : (gs : List (Option Group)) (k n : ℕ) → kept_from k (gs ++ replicate n None) ≡ kept_from k gs
kept-more [] k n = none-kept k n
kept-more (None ∷ gs) k n = kept-more gs (k + 1) n
kept-more (Some g ∷ gs) k n = ap (λ es. (k, g) ∷ es) (kept-more gs (k + 1) n)

all-free : (n : ℕ) → map free_count (replicate n nothing) ≡ replicate n 1
all-free zero = refl
all-free (suc n) = ap (λ l. 1 ∷ l) (all-free n)

pub free-more : (os : List (Option Owner)) (n : ℕ) → map free_count (os ++ replicate n None) ≡ map free_count os ++ replicate n 1
free-more [] n = all-free n
free-more (o ∷ os) n = ap (λ l. free_count o ∷ l) (free-more os n)

one-each : (n : ℕ) → IsCounts (replicate n 1)
one-each zero = tt
one-each (suc n) = (omega arith, one-each n)

pub are-counts : (os : List (Option Owner)) (n : ℕ) → IsCounts (map free_count os ++ replicate n 1)
are-counts [] n = one-each n
are-counts (None ∷ os) n = (omega arith, are-counts os n)
are-counts (Some o ∷ os) n = (omega arith, are-counts os n)

module _ {Key : Type 0} {content : Key → List WasmSubType} {live : ℕ} {known : Key → Option ℕ} {gs : List (Option Group)} {os : List (Option Owner)}
    {free : List ℕ} (k : AreKeptByKeys content live known gs os free) where
  -- the map may be another that has the same entries
  pub kept-known : (known' : Key → Option ℕ) → ((key : Key) → known' key ≡ known key) → AreKeptByKeys content live known' gs os free
  kept-known known' same = grind (arith, common_steps)

  pub kept-roomier : (n : ℕ) → length gs + n < 4294967296
      → AreKeptByKeys content live known (gs ++ replicate n None) (os ++ replicate n None) (map free_count os ++ replicate n 1)
  kept-roomier n few = record {
    few = grind (arith, length-append, length-replicate);
    owners = grind (arith, length-append, length-replicate);
    counted = k.counted ∙ ap (λ es. length (indices_of es)) (sym (kept-more gs 0 n));
    first = λ f g at. k.first f g (sym (at-more gs n f) ∙ at);
    owned = λ f p i g at is. at-more os n i ∙ k.owned f p i g (sym (at-more gs n f) ∙ at) is;
    owns = λ i o is. let w = k.owns i o (sym (at-more os n i) ∙ is) in record { group = w.group; kept = at-more gs n o.first ∙ w.kept; at = w.at };
    unowned = sym (free-more os n);
    found = λ f g at key is. k.found f g (sym (at-more gs n f) ∙ at) key is;
    knows = λ key f is. let w = k.knows key f is in record { group = w.group; kept = at-more gs n f ∙ w.kept; same = w.same };
  }
