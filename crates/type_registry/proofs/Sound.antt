-- Kept groups are told apart, also once more are kept and counted.
use Rattle.std.specs.Prelude.{[], ⊤}
use Rattle.std.proofs.Common.{if◌then◌else◌, ◌≡◌, ◌∙◌, ◌↔◌, ◌<◌, ℕ, zero, suc, true, nat_eq, nat_le, List, ◌∷◌, length, slice_get, Option, Some, None, refl, sym, ap, arith, eq-eqb}
use Rattle.std.specs.List.{list_any}
use Rattle.std.specs.Map.{lookup, set_value, remove_entry}
use Rattle.std.specs.Option.{option_map}
use Rattle.std.proofs.lemmas.Bool.{eqb-true, leb-true, leb-false, cases_Bool, cond_both}
use Rattle.std.proofs.lemmas.Bool.Decides.{nat_tests}
use Rattle.std.proofs.lemmas.Option.{none-some, same_Some}
use Rattle.wasm_types.specs.declared.sub.WasmSubType.{WasmSubType}
use Rattle.type_registry.specs.Registry.{Group, Groups, GroupsState, indices_of}
use Rattle.type_registry.specs.Changes.{find_group, keep_group, keep_groups, count_group, count_groups, leave_group, leave_groups}
use Rattle.type_registry.specs.Standing.{AreAbove, AreOrdered, GroupsAreSound}
use Rattle.type_registry.specs.Fresh.{MayBeKept, MayKeepAll}
use Rattle.type_registry.proofs.OwnerLists.{any-place}
use Rattle.type_registry.proofs.Keeping.{Eq}
use Rattle.type_registry.proofs.KeepingAll.{true-false}
use Rattle.type_registry.proofs.NewGroups.{any-left, any-right, none-of}

-- the group that is kept at a first index
abbrev pub found : Groups → ℕ → Option Group
found gs i = lookup (nat_eq i) gs

abbrev Kept : Type 0
Kept = ℕ × Group

-- ---- what follows from a group that is found

pub found-index : (gs : Groups) (i p n : ℕ) (h : Group) → found gs i ≡ Some h → slice_get h.indices p ≡ Some n → list_any (nat_eq n) (indices_of gs) ≡ true
found-index [] i p n h is at = absurd (none-some h is)
found-index (e ∷ gs) i p n h is at = grind (arith, any-place, any-left, any-right, nat_tests, (found-index gs i p n h))

found-unlike : (gs : Groups) (i : ℕ) (h : Group) (c : List WasmSubType) → found gs i ≡ Some h → find_group c gs ≡ None → Eq h.canonical c ≡ true → ⊥
found-unlike [] i h c is none holds = none-some h is
found-unlike (e ∷ gs) i h c is none holds = grind (arith, cases_Bool, nat_tests, (found-unlike gs i h c))

-- ---- one more group

pub found-keep : (gs : Groups) (f i : ℕ) (g : Group) → found (keep_group gs f g) i ≡ (if nat_eq i f then Some g else found gs i)
found-keep [] f i g = refl
found-keep (e ∷ gs) f i g = let rest = found-keep gs f i g in grind (arith, nat_tests)

above-less : (m n : ℕ) (gs : Groups) → m < n → AreAbove n gs → AreAbove m gs
above-less m n [] lt all = tt
above-less m n (e ∷ gs) lt all = (omega (arith, lt, all.0), above-less m n gs lt all.1)

keep-above : (n f : ℕ) (gs : Groups) (g : Group) → n < f → AreAbove n gs → AreAbove n (keep_group gs f g)
keep-above n f [] g lt all = (lt, tt)
keep-above n f (e ∷ gs) g lt all = grind (arith, (keep-above n f gs g lt all.1))

keep-ordered : (f : ℕ) (gs : Groups) (g : Group) → found gs f ≡ None → AreOrdered gs → AreOrdered (keep_group gs f g)
keep-ordered f [] g none ordered = (tt, tt)
keep-ordered f (e ∷ gs) g none ordered =
    let differ : (f ≡ e.0 → ⊥) × (found gs f ≡ None) = (λ same. grind (arith, nat_tests), grind (arith, nat_tests)) in
    grind (arith, leb-true, above-less, leb-false, keep-above, cond_both, (keep-ordered f gs g differ.1 ordered.1))

-- a group that is found is the new one or was found
data Where (gs : Groups) (f i : ℕ) (g h : Group) : Type 0 where
  Here : i ≡ f → h ≡ g → Where gs f i g h
  There : found gs i ≡ Some h → Where gs f i g h

where-of : (gs : Groups) (f i : ℕ) (g h : Group) → found (keep_group gs f g) i ≡ Some h → Where gs f i g h
where-of gs f i g h is = grind (arith, nat_eq, found-keep, eqb-true, same_Some)

module _ (equal : (x y : List WasmSubType) → (Eq x y ≡ true) ↔ (x ≡ y)) (s : GroupsState) (f : ℕ) (g : Group) (sound : GroupsAreSound s.groups) (may : MayBeKept s g)
    (first : slice_get g.indices 0 ≡ Some f) (long : length g.indices ≡ length g.canonical) where
  abbrev kept : Groups
  kept = s.groups

  -- an index of the new group is of no other
  elsewhere : (i p q n : ℕ) (h : Group) → found kept i ≡ Some h → slice_get g.indices p ≡ Some n → slice_get h.indices q ≡ Some n → ⊥
  elsewhere i p q n h is at at' = true-false (list_any (nat_eq n) (indices_of kept)) (found-index kept i q n h is at') (may.free p n at)

  pub none-found : found kept f ≡ None
  none-found = none-of (found kept f) (λ h e. elsewhere f 0 0 f h e first (sound.firsts f h e))

  unlike : (i : ℕ) (h : Group) → found kept i ≡ Some h → h.canonical ≡ g.canonical → ⊥
  unlike i h is same = found-unlike kept i h g.canonical is may.unknown ((equal h.canonical g.canonical).1 same)

  pub keep-sound : GroupsAreSound (keep_group kept f g)
  keep-sound = grind (arith, keep-ordered, none-found, where-of, unlike, slice_get, elsewhere)

-- ---- more groups

abbrev pub with_one : GroupsState → Kept → GroupsState
with_one s e = record { groups = keep_group s.groups e.0 e.1; room = s.room; spare = s.spare }

pub may-rest : (s : GroupsState) (e : Kept) (es : Groups) → MayKeepAll s (e ∷ es) → MayKeepAll (with_one s e) es
may-rest s e es may = may.1 (with_one s e) (refl, refl, omega arith)

-- each group is at its first index, and has an index for each member
abbrev pub AllFirst : Groups → Type 0
AllFirst [] = ⊤
AllFirst (e ∷ es) = (slice_get e.1.indices 0 ≡ Some e.0) × (length e.1.indices ≡ length e.1.canonical) × AllFirst es

module _ (equal : (x y : List WasmSubType) → (Eq x y ≡ true) ↔ (x ≡ y)) where
  pub keeps-sound : (es : Groups) (s : GroupsState) → GroupsAreSound s.groups → MayKeepAll s es → AllFirst es → GroupsAreSound (keep_groups s.groups es)
  keeps-sound [] s sound may first = sound
  keeps-sound (e ∷ es) s sound may first = grind (arith, (keeps-sound es (with_one s e) (keep-sound equal s e.0 e.1 sound may.0 first.0 first.1) (may-rest s e es may) first.2))

  -- a group that is kept remains so
  pub keeps-found : (es : Groups) (s : GroupsState) (i : ℕ) (h : Group) → GroupsAreSound s.groups → MayKeepAll s es → AllFirst es → found s.groups i ≡ Some h
      → found (keep_groups s.groups es) i ≡ Some h
  keeps-found [] s i h sound may first is = is
  keeps-found (e ∷ es) s i h sound may first is = keeps-found es (with_one s e) i h (keep-sound equal s e.0 e.1 sound may.0 first.0 first.1) (may-rest s e es may) first.2
      (grind (arith, nat_tests, none-found equal s e.0 e.1 sound may.0 first.0 first.1, found-keep s.groups e.0 i e.1))

  -- each of the new groups is kept
  pub keeps-new : (es : Groups) (s : GroupsState) (p : ℕ) (e : Kept) → GroupsAreSound s.groups → MayKeepAll s es → AllFirst es → slice_get es p ≡ Some e
      → found (keep_groups s.groups es) e.0 ≡ Some e.1
  keeps-new [] s p e sound may first at = absurd (none-some e at)
  keeps-new (x ∷ es) s zero e sound may first at = grind (
    arith,
    keeps-found es (with_one s x) x.0 x.1
        (keep-sound equal s x.0 x.1 sound may.0 first.0 first.1) (may-rest s x es may) first.2 (grind (arith, found-keep s.groups x.0 x.0 x.1, eq-eqb)),
  )
  keeps-new (x ∷ es) s (suc p) e sound may first at = grind (arith, (keeps-new es (with_one s x) p e (keep-sound equal s x.0 x.1 sound may.0 first.0 first.1) (may-rest s x es may) first.2 at))

-- ---- groups that are counted

-- a group without its count
abbrev pub bare : Group → Group
bare g = record g { count = 0 }

-- what a group of one list is in another except for its count
pub record IsBut (gs : Groups) (i : ℕ) (h : Group) : Type 0 where
  pub group : Group
  pub kept : found gs i ≡ Some group
  pub same : bare group ≡ bare h

pub but-of : (gs : Groups) (i : ℕ) (h : Group) (o : Option Group) → found gs i ≡ o → option_map bare o ≡ Some (bare h) → IsBut gs i h
but-of gs i h o e is = grind arith

set-bare : (gs : Groups) (f i n : ℕ) (g : Group) → found gs f ≡ Some g
    → option_map bare (found (set_value (nat_eq f) gs (record g { count = n })) i) ≡ option_map bare (found gs i)
set-bare [] f i n g is = refl
set-bare (e ∷ gs) f i n g is = let rest = set-bare gs f i n g in grind (arith, nat_tests)

count-bare : (gs : Groups) (f i : ℕ) (o : Option Group) → found gs f ≡ o → option_map bare (found (count_group gs f o) i) ≡ option_map bare (found gs i)
count-bare gs f i o e = grind (arith, set-bare)

counts-bare : (gs : Groups) (fs : List ℕ) (i : ℕ) → option_map bare (found (count_groups gs fs) i) ≡ option_map bare (found gs i)
counts-bare gs [] i = refl
counts-bare gs (f ∷ fs) i = counts-bare (count_group gs f (found gs f)) fs i ∙ count-bare gs f i (found gs f) refl

-- what is kept before is kept after, except for its count, and the other way round
pub counted-is : (gs : Groups) (fs : List ℕ) (i : ℕ) (h : Group) → found gs i ≡ Some h → IsBut (count_groups gs fs) i h
counted-is gs fs i h is = but-of (count_groups gs fs) i h (found (count_groups gs fs) i) refl (counts-bare gs fs i ∙ ap (option_map bare) is)

pub counted-was : (gs : Groups) (fs : List ℕ) (i : ℕ) (h : Group) → found (count_groups gs fs) i ≡ Some h → IsBut gs i h
counted-was gs fs i h is = but-of gs i h (found gs i) refl (sym (counts-bare gs fs i) ∙ ap (option_map bare) is)

set-above : (n f : ℕ) (gs : Groups) (g : Group) → AreAbove n gs → AreAbove n (set_value (nat_eq f) gs g)
set-above n f [] g all = tt
set-above n f (e ∷ gs) g all = grind (arith, (set-above n f gs g all.1))

set-ordered : (f : ℕ) (gs : Groups) (g : Group) → AreOrdered gs → AreOrdered (set_value (nat_eq f) gs g)
set-ordered f [] g all = tt
set-ordered f (e ∷ gs) g all = grind (arith, cond_both, set-above, (set-ordered f gs g all.1))

count-ordered : (f : ℕ) (gs : Groups) (o : Option Group) → AreOrdered gs → AreOrdered (count_group gs f o)
count-ordered f gs o all = grind (arith, set-ordered)

counts-ordered : (gs : Groups) (fs : List ℕ) → AreOrdered gs → AreOrdered (count_groups gs fs)
counts-ordered gs [] all = all
counts-ordered gs (f ∷ fs) all = counts-ordered (count_group gs f (found gs f)) fs (count-ordered f gs (found gs f) all)

-- what is kept in order, and was kept except for its count, is told apart as it was
sound-but : (gs now : Groups) → AreOrdered now → ((i : ℕ) (h : Group) → found now i ≡ Some h → IsBut gs i h) → GroupsAreSound gs → GroupsAreSound now
sound-but gs now ordered was sound = record {
  ordered = ordered;
  groups = λ i j h k is is' same. let w = was i h is in let x = was j k is' in grind (arith, sound.groups i j w.group x.group w.kept x.kept);
  members = λ i h is. let w = was i h is in grind (arith, sound.members i w.group w.kept);
  firsts = λ i h is. let w = was i h is in grind (arith, sound.firsts i w.group w.kept);
  owned = λ i j p q n h k is is' at at'. let w = was i h is in let x = was j k is' in grind (arith, sound.owned i j p q n w.group x.group w.kept x.kept);
}

pub counted-sound : (gs : Groups) (fs : List ℕ) → GroupsAreSound gs → GroupsAreSound (count_groups gs fs)
counted-sound gs fs sound = sound-but gs (count_groups gs fs) (counts-ordered gs fs sound.ordered) (counted-was gs fs) sound

-- ---- groups that modules leave

pub found-above : (gs : Groups) (n i : ℕ) (h : Group) → AreAbove n gs → found gs i ≡ Some h → n < i
found-above [] n i h all is = absurd (none-some h is)
found-above (e ∷ gs) n i h all is = let rest = found-above gs n i h all.1 in let low = all.0 in grind (arith, nat_tests)

pub found-remove : (gs : Groups) (f i : ℕ) → AreOrdered gs → found (remove_entry (nat_eq f) gs) i ≡ (if nat_eq i f then None else found gs i)
found-remove [] f i ordered = grind (arith, nat_tests)
found-remove (e ∷ gs) f i ordered = grind (arith, nat_tests, none-of, found-above, (found-remove gs f i ordered.1))

removed-was : (gs : Groups) (f i : ℕ) (h : Group) → AreOrdered gs → found (remove_entry (nat_eq f) gs) i ≡ Some h → found gs i ≡ Some h
removed-was gs f i h ordered is = let all = found-remove gs f i ordered in grind (arith, nat_tests)

remove-above : (n f : ℕ) (gs : Groups) → AreAbove n gs → AreAbove n (remove_entry (nat_eq f) gs)
remove-above n f [] all = tt
remove-above n f (e ∷ gs) all = grind (arith, (remove-above n f gs all.1))

remove-ordered : (f : ℕ) (gs : Groups) → AreOrdered gs → AreOrdered (remove_entry (nat_eq f) gs)
remove-ordered f [] all = tt
remove-ordered f (e ∷ gs) all = grind (arith, cond_both, remove-above, (remove-ordered f gs all.1))

pub leave-ordered : (gs : Groups) (f : ℕ) (o : Option Group) → AreOrdered gs → AreOrdered (leave_group gs f o)
leave-ordered gs f o h1 = grind (arith, cond_both, nat_le, nat_eq, remove-ordered, set-ordered)

-- what is kept once a module leaves a group was kept, except for its count
pub leave-was : (gs : Groups) (f : ℕ) (o : Option Group) → found gs f ≡ o → AreOrdered gs → (i : ℕ) (h : Group) → found (leave_group gs f o) i ≡ Some h → IsBut gs i h
leave-was gs f o h1 h2 i h h3 = grind (arith, nat_le, nat_eq, removed-was, but-of, set-bare)

leave-sound : (gs : Groups) (f : ℕ) (o : Option Group) → found gs f ≡ o → GroupsAreSound gs → GroupsAreSound (leave_group gs f o)
leave-sound gs f o e sound = sound-but gs (leave_group gs f o) (leave-ordered gs f o sound.ordered) (leave-was gs f o e sound.ordered) sound

pub left-sound : (gs : Groups) (fs : List ℕ) → GroupsAreSound gs → GroupsAreSound (leave_groups gs fs)
left-sound gs [] sound = sound
left-sound gs (f ∷ fs) sound = left-sound (leave_group gs f (found gs f)) fs (leave-sound gs f (found gs f) refl sound)

pub none-sound : GroupsAreSound []
none-sound = grind (arith, none-some)
