-- Groups that may be kept one after another.
use Rattle.std.specs.Prelude.{[], ◌||◌, ⊤}
use Rattle.std.proofs.Common.{if◌then◌else◌, ◌≡◌, ◌∙◌, ◌<◌, ◌≤◌, ◌+◌, ℕ, zero, suc, Bool, true, false, nat_eq, nat_le, List, ◌∷◌, ◌++◌, length, slice_get, Some, None, refl, sym, ap, arith}
use Rattle.std.specs.List.{list_any}
use Rattle.std.proofs.lemmas.List.{length-append}
use Rattle.std.proofs.lemmas.Bool.{cases_Bool, or_parts, cond_both}
use Rattle.std.proofs.lemmas.List.Folds.{list_any-append}
use Rattle.std.proofs.lemmas.Bool.Decides.{nat_tests}
use Rattle.std.proofs.lemmas.Option.{none-some, same_Some}
use Rattle.wasm_types.specs.declared.sub.WasmSubType.{WasmSubType}
use Rattle.type_registry.specs.Registry.{Group, Groups, GroupsState, indices_of}
use Rattle.type_registry.specs.Changes.{find_group, keep_group}
use Rattle.type_registry.specs.Fresh.{MayBeKept, IsKeptIn, MayKeepAll}
use Rattle.type_registry.proofs.OwnerLists.{any-place}
use Rattle.type_registry.proofs.Keeping.{Eq}
use Rattle.type_registry.proofs.NewGroups.{any-left, any-right}

-- ---- numbers that a list has once

abbrev pub IsOnce : List ℕ → Type 0
IsOnce [] = ⊤
IsOnce (n ∷ ns) = (list_any (nat_eq n) ns ≡ false) × IsOnce ns

pub true-false : (c : Bool) → c ≡ true → c ≡ false → ⊥
true-false c holds fails = let no-way : true ≡ false = sym holds ∙ fails in cc

pub any-second : (xs ys : List ℕ) (n : ℕ) → list_any (nat_eq n) xs ≡ false → list_any (nat_eq n) (xs ++ ys) ≡ list_any (nat_eq n) ys
any-second xs ys n fails = list_any-append (nat_eq n) xs ys ∙ ap (λ c. c || list_any (nat_eq n) ys) fails

pub any-both : (xs ys : List ℕ) (n : ℕ) → list_any (nat_eq n) xs ≡ false → list_any (nat_eq n) ys ≡ false → list_any (nat_eq n) (xs ++ ys) ≡ false
any-both xs ys n a b = any-second xs ys n a ∙ b

pub not-left : (xs ys : List ℕ) (n : ℕ) → list_any (nat_eq n) (xs ++ ys) ≡ false → list_any (nat_eq n) xs ≡ false
not-left xs ys n fails = (or_parts (list_any (nat_eq n) xs) (list_any (nat_eq n) ys) (sym (list_any-append (nat_eq n) xs ys) ∙ fails)).0

pub not-right : (xs ys : List ℕ) (n : ℕ) → list_any (nat_eq n) (xs ++ ys) ≡ false → list_any (nat_eq n) ys ≡ false
not-right xs ys n fails = (or_parts (list_any (nat_eq n) xs) (list_any (nat_eq n) ys) (sym (list_any-append (nat_eq n) xs ys) ∙ fails)).1

once-left : (xs ys : List ℕ) → IsOnce (xs ++ ys) → IsOnce xs
once-left [] ys o = tt
once-left (x ∷ xs) ys o = (not-left xs ys x o.0, once-left xs ys o.1)

once-right : (xs ys : List ℕ) → IsOnce (xs ++ ys) → IsOnce ys
once-right [] ys o = o
once-right (x ∷ xs) ys o = once-right xs ys o.1

-- what the second has and the first does not
once-apart : (xs ys : List ℕ) (n : ℕ) → IsOnce (xs ++ ys) → list_any (nat_eq n) ys ≡ true → list_any (nat_eq n) xs ≡ false
once-apart [] ys n o has = refl
once-apart (x ∷ xs) ys n o has = grind (arith, not-right, nat_tests, (once-apart xs ys n o.1 has))

once-at : (ns : List ℕ) (p q n : ℕ) → IsOnce ns → slice_get ns p ≡ Some n → slice_get ns q ≡ Some n → p ≡ q
once-at [] p q n o at at' = absurd (none-some n at)
once-at (m ∷ ns) zero zero n o at at' = refl
once-at (m ∷ ns) zero (suc q) n o at at' = grind (arith, true-false, same_Some, any-place)
once-at (m ∷ ns) (suc p) zero n o at at' = grind (arith, true-false, same_Some, any-place)
once-at (m ∷ ns) (suc p) (suc q) n o at at' = ap suc (once-at ns p q n o.1 at at')

-- ---- what is kept once one more group is

keep-without : (gs : Groups) (f n : ℕ) (g : Group) → list_any (nat_eq n) g.indices ≡ false → list_any (nat_eq n) (indices_of gs) ≡ false
    → list_any (nat_eq n) (indices_of (keep_group gs f g)) ≡ false
keep-without [] f n g a b = any-both g.indices [] n a refl
keep-without (e ∷ gs) f n g a b = grind (arith, any-both, not-right, cond_both, nat_le, nat_eq, not-left, (keep-without gs f n g a (not-right e.1.indices (indices_of gs) n b)))

pub keep-length : (gs : Groups) (f : ℕ) (g : Group) → length (indices_of (keep_group gs f g)) ≡ length (indices_of gs) + length g.indices
keep-length [] f g = omega (arith, length-append g.indices (indices_of []))
keep-length (e ∷ gs) f g = let rest = keep-length gs f g in grind (arith, nat_tests, length-append)

keep-unknown : (gs : Groups) (f : ℕ) (g : Group) (c : List WasmSubType) → Eq g.canonical c ≡ false → find_group c gs ≡ None → find_group c (keep_group gs f g) ≡ None
keep-unknown [] f g c unlike none = ap (λ b. if b then Some g else None) unlike
keep-unknown (e ∷ gs) f g c unlike none = grind (arith, cases_Bool, nat_tests, (keep-unknown gs f g c unlike))

-- ---- one after another

-- no group is kept
abbrev pub AllUnknown : Groups → Groups → Type 0
AllUnknown gs [] = ⊤
AllUnknown gs (e ∷ es) = (find_group e.1.canonical gs ≡ None) × AllUnknown gs es

abbrev pub AllUnlike : Group → Groups → Type 0
AllUnlike g [] = ⊤
AllUnlike g (e ∷ es) = (Eq g.canonical e.1.canonical ≡ false) × AllUnlike g es

-- no two groups are equal
abbrev pub AllApart : Groups → Type 0
AllApart [] = ⊤
AllApart (e ∷ es) = AllUnlike e.1 es × AllApart es

-- groups that may all be kept: there is capacity, their indices are distinct and not live, and no
-- two are equal, nor one and a kept one
pub record MayKeep (s : GroupsState) (es : Groups) : Type 0 where
  pub few : length (indices_of s.groups) + length (indices_of es) < 4294967296
  pub spare : length es ≤ s.spare
  pub room : (n : ℕ) → list_any (nat_eq n) (indices_of es) ≡ true → n < s.room
  pub free : (n : ℕ) → list_any (nat_eq n) (indices_of es) ≡ true → list_any (nat_eq n) (indices_of s.groups) ≡ false
  pub once : IsOnce (indices_of es)
  pub unknown : AllUnknown s.groups es
  pub apart : AllApart es

unknown-still : (gs : Groups) (f : ℕ) (g : Group) (es : Groups) → AllUnlike g es → AllUnknown gs es → AllUnknown (keep_group gs f g) es
unknown-still gs f g [] unlike unknown = tt
unknown-still gs f g (e ∷ es) unlike unknown = grind (arith, keep-unknown, (unknown-still gs f g es unlike.1 unknown.1))

one-may : (s : GroupsState) (e : ℕ × Group) (es : Groups) → MayKeep s (e ∷ es) → MayBeKept s e.1
one-may s e es m = record {
  few = omega (arith, m.few, length-append e.1.indices (indices_of es));
  spare = omega (arith, m.spare);
  room = λ p n at. m.room n (any-left e.1.indices (indices_of es) n (any-place e.1.indices n p at));
  free = λ p n at. m.free n (any-left e.1.indices (indices_of es) n (any-place e.1.indices n p at));
  once = λ p q n at at'. once-at e.1.indices p q n (once-left e.1.indices (indices_of es) m.once) at at';
  unknown = m.unknown.0;
}

rest-may : (s t : GroupsState) (e : ℕ × Group) (es : Groups) → MayKeep s (e ∷ es) → IsKeptIn s e t → MayKeep t es
rest-may s t e es m is = record {
  few = grind (arith, m.few, keep-length s.groups e.0 e.1, length-append e.1.indices (indices_of es));
  spare = omega (arith, m.spare, is.2);
  room = λ n has. omega (arith, is.1, m.room n (any-right e.1.indices (indices_of es) n has));
  free = grind (arith, once-apart, any-right, keep-without);
  once = once-right e.1.indices (indices_of es) m.once;
  unknown = rw is.0 (unknown-still s.groups e.0 e.1 es m.apart.0 m.unknown.1);
  apart = m.apart.1;
}

pub may-keep-all : (es : Groups) (s : GroupsState) → MayKeep s es → MayKeepAll s es
may-keep-all [] s m = tt
may-keep-all (e ∷ es) s m = (one-may s e es m, λ t is. may-keep-all es t (rest-may s t e es m is))
