-- Cutting `.dwo` removes nothing of `.debug_`.
use Rattle.std.proofs.lemmas.Grind.{common_steps}
use Rattle.std.proofs.Common.{◌≡◌, ℕ, zero, suc, ◌-◌, ◌≤◌, List, ◌++◌, length, take, drop, get_or, Bool, true, cond, eqb, refl, sym, arith, append_assoc}
use Rattle.std.specs.Prelude.{codes}
use Rattle.std.specs.List.{starts_with, ends_with}
use Rattle.std.specs.Cmp.{unsigned_Decides}
use Rattle.std.proofs.lemmas.Slice.Eq.{starts_is, ends_is}
use Rattle.std.proofs.lemmas.List.{take-append-drop, take-append-le, get_or-append_right}
use Rattle.custom_sections.specs.DebugNames.{without_dwo, is_debug}

same_tests : (a b : Bool) → (a ≡ true → b ≡ true) → (b ≡ true → a ≡ true) → a ≡ b
same_tests a b h1 h2 = grind (arith, common_steps)

-- no byte of `.dwo` is the last one of `.debug_`
no_mark : (i : ℕ) → get_or (codes ".dwo") i 0 ≡ 95 → ⊥
no_mark i h1 = grind (arith, common_steps)

starts_with_mark : (name rest : List ℕ) → name ≡ codes ".debug_" ++ rest → starts_with eqb name (codes ".debug_") ≡ true
starts_with_mark name rest e = (starts_is unsigned_Decides name (codes ".debug_") (starts_with eqb name (codes ".debug_")) refl).1 rest e

mark_of : (name : List ℕ) → starts_with eqb name (codes ".debug_") ≡ true → name ≡ codes ".debug_" ++ drop 7 name
mark_of name h = (starts_is unsigned_Decides name (codes ".debug_") (starts_with eqb name (codes ".debug_")) refl).0 h

last_byte : (name rest : List ℕ) → name ≡ codes ".debug_" ++ rest → get_or name 6 0 ≡ 95
last_byte name rest e = rw e refl

module _ (name : List ℕ) (ends : ends_with eqb name (codes ".dwo") ≡ true) where
  parts : name ≡ take (length name - 4) name ++ codes ".dwo"
  parts = (ends_is unsigned_Decides name (codes ".dwo") (ends_with eqb name (codes ".dwo")) refl).0 ends

  starts_after : starts_with eqb (take (length name - 4) name) (codes ".debug_") ≡ true → starts_with eqb name (codes ".debug_") ≡ true
  starts_after h = grind (arith, starts_with_mark, parts, mark_of, append_assoc)

  long : (front : List ℕ) → name ≡ front ++ codes ".dwo" → starts_with eqb name (codes ".debug_") ≡ true → 7 ≤ length front
  long front e h = grind (arith, mark_of name h, last_byte name (drop 7 name) (mark_of name h), get_or-append_right, no_mark)

  front_starts : (front : List ℕ) → name ≡ front ++ codes ".dwo" → starts_with eqb name (codes ".debug_") ≡ true
      → starts_with eqb front (codes ".debug_") ≡ true
  front_starts front e h = grind (arith, mark_of, take-append-le, long, starts_with_mark, take-append-drop)

  cut_keeps : starts_with eqb (take (length name - 4) name) (codes ".debug_") ≡ starts_with eqb name (codes ".debug_")
  cut_keeps = same_tests _ _ starts_after (front_starts (take (length name - 4) name) parts)

one_cut : (t : Bool) (name cut : List ℕ) → ends_with eqb name (codes ".dwo") ≡ t
    → starts_with eqb cut (codes ".debug_") ≡ starts_with eqb (take (length name - 4) name) (codes ".debug_")
    → starts_with eqb (cond t cut name) (codes ".debug_") ≡ starts_with eqb name (codes ".debug_")
one_cut t name cut e h = grind (arith, cut_keeps)

all_cuts_keep : (n : ℕ) (name : List ℕ) → starts_with eqb (without_dwo n name) (codes ".debug_") ≡ starts_with eqb name (codes ".debug_")
all_cuts_keep zero name = refl
all_cuts_keep (suc n) name = grind (arith, one_cut, eqb, (all_cuts_keep n (take (length name - 4) name)))

pub debug_is : (name : List ℕ) → starts_with eqb name (codes ".debug_") ≡ is_debug name
unfolding is_debug
debug_is name = sym (all_cuts_keep (length name) name)
