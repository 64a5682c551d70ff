-- Groups at their first indices.
use Rattle.std.proofs.lemmas.Grind.{common_steps}
use Rattle.std.proofs.Common.{◌≡◌, ◌∙◌, ◌<◌, ℕ, zero, suc, ◌+◌, nat_eq, List, [], ◌∷◌, length, Option, Some, None, option_and_then, set, refl, sym, ap, arith}
use Rattle.std.proofs.lemmas.List.{length-append}
use Rattle.std.proofs.lemmas.Bool.{ne_eqb}
use Rattle.std.specs.Map.{lookup, set_value, remove_entry}
use Rattle.std.proofs.lemmas.Bool.Decides.{nat_tests}
use Rattle.std.specs.List.{slice_get}
use Rattle.type_registry.specs.Registry.{Group, Groups, indices_of}
use Rattle.type_registry.specs.Keeping.{kept_from, group_in}
use Rattle.type_registry.specs.Changes.{with_count}

abbrev nothing : Option Group
nothing = None

lookup-below : (gs : List (Option Group)) (k n : ℕ) → n < k → lookup (nat_eq n) (kept_from k gs) ≡ None
lookup-below [] k n h = refl
lookup-below (None ∷ gs) k n h = lookup-below gs (k + 1) n (omega (arith, h))
lookup-below (Some g ∷ gs) k n h = grind (arith, (lookup-below gs (k + 1) n (omega (arith, h))))

pub lookup-at : (gs : List (Option Group)) (k m n : ℕ) → n ≡ k + m → lookup (nat_eq n) (kept_from k gs) ≡ group_in gs m
lookup-at [] k m n e = refl
lookup-at (None ∷ gs) k zero n e = lookup-below gs (k + 1) n (omega (arith, e))
lookup-at (None ∷ gs) k (suc m) n e = lookup-at gs (k + 1) m n (omega (arith, e))
lookup-at (Some g ∷ gs) k zero n e = grind arith
lookup-at (Some g ∷ gs) k (suc m) n e = grind (arith, (lookup-at gs (k + 1) m n (omega (arith, e))))

-- another group at a position, or none
pub set-at : (gs : List (Option Group)) (k m n : ℕ) (g h : Group) → n ≡ k + m → group_in gs m ≡ Some g
    → kept_from k (set gs m (Some h)) ≡ set_value (nat_eq n) (kept_from k gs) h
set-at [] k m n g h e at = refl
set-at (None ∷ gs) k zero n g h e at = let no : nothing ≡ Some g = at in cc
set-at (None ∷ gs) k (suc m) n g h e at = set-at gs (k + 1) m n g h (omega (arith, e)) at
set-at (Some x ∷ gs) k zero n g h e at = grind arith
set-at (Some x ∷ gs) k (suc m) n g h e at = grind (arith, nat_eq, ne_eqb, (set-at gs (k + 1) m n g h (omega (arith, e)) at))

pub remove-at : (gs : List (Option Group)) (k m n : ℕ) (g : Group) → n ≡ k + m → group_in gs m ≡ Some g
    → kept_from k (set gs m None) ≡ remove_entry (nat_eq n) (kept_from k gs)
remove-at [] k m n g e at = refl
remove-at (None ∷ gs) k zero n g e at = let no : nothing ≡ Some g = at in cc
remove-at (None ∷ gs) k (suc m) n g e at = remove-at gs (k + 1) m n g (omega (arith, e)) at
remove-at (Some x ∷ gs) k zero n g e at = grind arith
remove-at (Some x ∷ gs) k (suc m) n g e at = grind (arith, nat_eq, ne_eqb, (remove-at gs (k + 1) m n g (omega (arith, e)) at))

-- ---- the group at a position, once another is put there

pub set-other : {A : Type 0} (xs : List (Option A)) (f n : ℕ) (o : Option A) → (n ≡ f → ⊥)
    → option_and_then (λ (x : Option A). x) (slice_get (set xs f o) n) ≡ option_and_then (λ (x : Option A). x) (slice_get xs n)
set-other (x ∷ xs) zero zero o apart = absurd (apart refl)
set-other (x ∷ xs) (suc f) (suc n) o apart = set-other xs f n o (λ e. apart (ap suc e))
set-other _ _ _ _ _ = refl

pub set-here : {A : Type 0} (xs : List (Option A)) (n : ℕ) (o : Option A) → n < length xs → option_and_then (λ (x : Option A). x) (slice_get (set xs n o) n) ≡ o
set-here [] n o lt = absurd (omega (arith, lt))
set-here (x ∷ xs) zero o lt = refl
set-here (x ∷ xs) (suc n) o lt = set-here xs n o (omega (arith, lt))

pub set-none : (gs : List (Option Group)) (f : ℕ) → group_in (set gs f None) f ≡ None
set-none (x ∷ gs) (suc f) = set-none gs f
set-none _ _ = refl

pub set-nothing : (gs : List (Option Group)) (f : ℕ) → group_in gs f ≡ None → set gs f None ≡ gs
set-nothing (Some g ∷ gs) zero at = let no : nothing ≡ Some g = sym at in cc
set-nothing (x ∷ gs) (suc f) at = ap (λ l. x ∷ l) (set-nothing gs f at)
set-nothing _ _ _ = refl

-- ---- what a contract says of the list by first indices

pub remove-none : (gs : List (Option Group)) (k m n : ℕ) → n ≡ k + m → group_in gs m ≡ None → kept_from k gs ≡ remove_entry (nat_eq n) (kept_from k gs)
remove-none gs k m n e none = absent (kept_from k gs) (lookup-at gs k m n e ∙ none) where
  absent : (es : Groups) → lookup (nat_eq n) es ≡ None → es ≡ remove_entry (nat_eq n) es
  absent [] none = refl
  absent (x ∷ es) none = let rest = absent es in grind (arith, nat_tests)

pub count-at : (gs : List (Option Group)) (f n : ℕ) (g : Group) → group_in gs f ≡ Some g
    → kept_from 0 (set gs f (Some (record g { count = n }))) ≡ with_count (kept_from 0 gs) f n (lookup (nat_eq f) (kept_from 0 gs))
count-at gs f n g at = grind (arith, set-at, lookup-at)

pub count-none : (gs : List (Option Group)) (f n : ℕ) → group_in gs f ≡ None
    → kept_from 0 gs ≡ with_count (kept_from 0 gs) f n (lookup (nat_eq f) (kept_from 0 gs))
count-none gs f n none = ap (with_count (kept_from 0 gs) f n) (sym (lookup-at gs 0 f f (omega arith) ∙ none))

-- ---- how many indices there are

pub length-counted : (gs : List (Option Group)) (k f n : ℕ) (g : Group) → group_in gs f ≡ Some g
    → length (indices_of (kept_from k (set gs f (Some (record g { count = n }))))) ≡ length (indices_of (kept_from k gs))
length-counted [] k f n g at = refl
length-counted (None ∷ gs) k zero n g at = let no : nothing ≡ Some g = at in cc
length-counted (None ∷ gs) k (suc f) n g at = length-counted gs (k + 1) f n g at
length-counted (Some h ∷ gs) k zero n g at = grind (arith, common_steps)
length-counted (Some h ∷ gs) k (suc f) n g at = grind (arith, length-append, set, (length-counted gs (k + 1) f n g at))

pub length-removed : (gs : List (Option Group)) (k f : ℕ) (g : Group) → group_in gs f ≡ Some g
    → length (indices_of (kept_from k (set gs f None))) + length g.indices ≡ length (indices_of (kept_from k gs))
length-removed (None ∷ gs) k (suc f) g at = length-removed gs (k + 1) f g at
length-removed (Some h ∷ gs) k zero g at = grind (arith, length-append)
length-removed (Some h ∷ gs) k (suc f) g at = grind (arith, length-append, set, (length-removed gs (k + 1) f g at))
length-removed _ _ _ g at = let no : nothing ≡ Some g = at in cc

pub group-within : (gs : List (Option Group)) (f : ℕ) (g : Group) → group_in gs f ≡ Some g → f < length gs
group-within [] f g at = let none : nothing ≡ Some g = at in cc
group-within (x ∷ gs) zero g at = omega arith
group-within (x ∷ gs) (suc f) g at = omega (arith, group-within gs f g at)

-- the group that a contract sees
pub group-seen : (gs : List (Option Group)) (now : Groups) (f : ℕ) → kept_from 0 gs ≡ now → lookup (nat_eq f) now ≡ group_in gs f
group-seen gs now f is = ap (λ es. lookup (nat_eq f) es) (sym is) ∙ lookup-at gs 0 f f (omega arith)
