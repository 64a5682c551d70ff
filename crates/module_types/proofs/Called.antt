-- Trampolines: each step keeps them at the indices of known mapped types. Each member of a group
-- has one, and in a module's list all functions but the startup type have one.
use Rattle.std.proofs.lemmas.Grind.{common_steps}
use Rattle.std.proofs.Common.{◌≡◌, ◌<◌, ◌≤◌, ℕ, zero, suc, ◌+◌, ◌-◌, Bool, true, false, List, [], ◌∷◌, ◌++◌, length, get_or, set, replicate, map, Option, Some, None, refl, sym, ap, ◌∙◌, inl, inr, arith}
use Rattle.std.specs.Prelude.{if◌then◌else◌, IsSome, slice_get, option_and_then}
use Rattle.std.specs.Option.{option_map}
use Rattle.std.proofs.lemmas.Bool.{cases_lt, cases_eq}
use Rattle.std.proofs.lemmas.List.{length-append, length-replicate, get_or-replicate, get_or_past, length-set, length_push, get_or-set_same, get_or_push, append_assoc, append-nil, get_or_append_left, get_or-append_right, get_or-set_other, set-append_left, set_at}
use Rattle.wasm_spec.specs.TypeData.{Group, Composite, Func}
use Rattle.type_spec.specs.Names.{Named}
use Rattle.type_spec.specs.Interned.{Interned, Called, Built, mapped, same_mapped, plain, alone, knows, with_trampoline, assign_at, assign_trampoline, assign_trampolines, composite_at, opened, with_group, exception_for, startup_type, taken, interned, GroupSpan, now_known, next_span}
use Rattle.wasm_index.specs.Index.{number_of}
use Rattle.module_types.specs.Views.{TypeIndex}
use Rattle.module_types.specs.TypeList.{trampoline_at}
use Rattle.module_types.specs.Builder.{BuilderState, Builder, builder_view, interns_by, interns, excepts_by, excepts, starts_by, starts}
use Rattle.module_types.specs.Tied.{HasTrampoline, HaveTrampolines, IsTied, trampoline_in}
use Rattle.module_types.proofs.GroupMembers.{trampoline_set, trampoline_next, each-step, all-steps, composite-before, composite-behind, extends-group, extends-step, through-taken, through-alone, extends-interned}
use Rattle.module_types.proofs.Keys.{same-mapped, mapped-same, mapped-twice}

none-there : (n i : ℕ) → get_or (replicate n (let o : Option ℕ = None in o)) i None ≡ None
none-there n i = grind (arith, cases_lt, get_or-replicate, get_or_past, length-replicate)

pub at-front : (front : List Interned) (t : Interned) (ts : List Interned) → composite_at (front ++ t ∷ ts) (length front) ≡ t.composite.inner
at-front [] t ts = refl
at-front (u ∷ front) t ts = at-front front t ts

pub within : (ts : List Interned) (i : ℕ) (f : Called) → composite_at ts i ≡ Func f → i < length ts
within [] i f e = absurd cc
within (t ∷ ts) zero f e = omega arith
within (t ∷ ts) (suc i) f e = let h = within ts i f e in omega (arith, h)

func-same : (f g : Called) (c : Composite (Named ℕ) ℕ) → c ≡ Func f → c ≡ Func g → f ≡ g
func-same f g c x y = let e : Func f ≡ Func g = sym x ∙ y in cc

-- ---- mapped types are recorded at their indices

module _ (b : Built) (tied : IsTied b) where
  -- types after the others, which have no trampolines
  tied-more : (ts : List Interned) (groups : List GroupSpan)
      → IsTied (record b { types = b.types ++ ts; groups = groups; trampolines = b.trampolines ++ replicate (length ts) None })
  tied-more ts groups = record {
    sized = grind (arith, length-append, length-replicate);
    known = λ f k e.
        let old = tied.known f k e in
        (omega (arith, old.0, length-append b.types ts), composite-before b.types ts k old.0 ∙ old.1);
    called = grind (arith, cases_lt, get_or_append_left, composite-before, get_or-append_right, none-there);
  }

  pub tied-alone : (t : Interned) → IsTied (alone b t None)
  tied-alone t = tied-more (t ∷ []) (b.groups ++ next_span b 1 ∷ [])

  -- a function is called by the type at which its mapped type was recorded
  pub tied-set : (i k : ℕ) (f : Called) → composite_at b.types i ≡ Func f → b.known_trampolines (mapped f) ≡ Some k → IsTied (with_trampoline b i k)
  tied-set i k f at is = grind (arith, length-set, cases_eq, within, get_or-set_same, func-same, get_or-set_other)

  module _ (f : Called) (k : ℕ) (none : b.known_trampolines (mapped f) ≡ None) (stands : composite_at b.types k ≡ Func (mapped f)) where
    met-by : (g : Called) (l : ℕ) (test : Bool) → same_mapped (mapped f) (mapped g) ≡ test → (if test then Some k else b.known_trampolines (mapped g)) ≡ Some l
        → (l < length b.types) × (composite_at b.types l ≡ Func (mapped g))
    met-by g l true same e = grind (arith, same-mapped f (mapped g) same, within)
    met-by g l false other e = tied.known g l e

    called-by : (g : Called) (l : ℕ) → b.known_trampolines (mapped g) ≡ Some l → (test : Bool) → same_mapped (mapped f) (mapped g) ≡ test
        → (if test then Some k else b.known_trampolines (mapped g)) ≡ Some l
    called-by g l is true same = grind (arith, same-mapped f (mapped g) same)
    called-by g l is false other = is

    -- a mapped type that was not recorded is now recorded at its index
    pub tied-knows : IsTied (knows b (mapped f) k)
    tied-knows = record {
      sized = tied.sized;
      known = λ g l e. met-by g l (same_mapped (mapped f) (mapped g)) refl e;
      called = λ i l g e at. called-by g l (tied.called i l g e at) (same_mapped (mapped f) (mapped g)) refl;
    }

-- the test finds a mapped type that was just recorded
met-now : (f : Called) (met : Called → Option ℕ) (k : ℕ) → now_known met (mapped f) k (mapped f) ≡ Some k
met-now f met k = ap (λ t. if t then Some k else met (mapped f)) (mapped-same f (mapped f) refl)

tied-new : (b : Built) → IsTied b → (i : ℕ) (f : Called) → composite_at b.types i ≡ Func f → b.known_trampolines (mapped f) ≡ None
    → IsTied (alone (with_trampoline (knows b (mapped f) (length b.types)) i (length b.types)) (plain (Func (mapped f))) (Some (length b.types)))
tied-new b tied i f at none =
    let k = length b.types in
    let t = plain (Func (mapped f)) in
    let one = tied-alone b tied t in
    let two = tied-knows (alone b t None) one f k none (at-front b.types t []) in
    let there : composite_at (b.types ++ t ∷ []) i ≡ Func f = composite-before b.types (t ∷ []) i (within b.types i f at) ∙ at in
    let met = met-now f b.known_trampolines k in
    let three = tied-set (knows (alone b t None) (mapped f) k) two i k f there met in
    let four : IsTied (with_trampoline (with_trampoline (knows (alone b t None) (mapped f) k) i k) k k) = grind (arith, common_steps, tied-set, at-front, mapped-twice) in
    let read : set (set (b.trampolines ++ None ∷ []) i (Some k)) k (Some k) ≡ set b.trampolines i (Some k) ++ Some k ∷ [] = grind (arith, set-append_left, within, set_at, length-set) in
    grind arith

tied-at : (b : Built) → IsTied b → (i : ℕ) (f : Called) → composite_at b.types i ≡ Func f → (o : Option ℕ) → b.known_trampolines (mapped f) ≡ o → IsTied (assign_at b i f o)
tied-at b tied i f at (Some k) is = tied-set b tied i k f at is
tied-at b tied i f at None none = by (same_mapped (mapped f) f) refl where
  by : (own : Bool) → same_mapped (mapped f) f ≡ own → IsTied (if own then with_trampoline (knows b (mapped f) i) i i
      else alone (with_trampoline (knows b (mapped f) (length b.types)) i (length b.types)) (plain (Func (mapped f))) (Some (length b.types)))
  by true own =
      let stands : composite_at b.types i ≡ Func (mapped f) = at ∙ ap Func (sym (same-mapped f f own)) in
      tied-set (knows b (mapped f) i) (tied-knows b tied f i none stands) i i f at (met-now f b.known_trampolines i)
  by false other = tied-new b tied i f at none

tied-assign_trampoline : (b : Built) → IsTied b → (i : ℕ) (c : Composite (Named ℕ) ℕ) → composite_at b.types i ≡ c → IsTied (assign_trampoline b i c)
tied-assign_trampoline b tied i (Func f) at = tied-at b tied i f at (b.known_trampolines (mapped f)) refl
tied-assign_trampoline b tied i c at = tied

tied-all : (b : Built) → IsTied b → (i : ℕ) (front ts more : List Interned) → length front ≡ i → b.types ≡ front ++ (ts ++ more) → IsTied (assign_trampolines b i ts)
tied-all b tied i front [] more long types = tied
tied-all b tied i front (t ∷ ts) more long types =
    let c = t.composite.inner in
    let at : composite_at b.types i ≡ c = (λ j. composite_at (types j) (sym long j)) ∙ at-front front t (ts ++ more) in
    let x = extends-step b i c in
    tied-all (assign_trampoline b i c) (tied-assign_trampoline b tied i c at) (suc i) (front ++ t ∷ []) ts (more ++ x.types_more) (length-append front (t ∷ []) ∙ omega (arith, long))
    (x.types ∙ ap (λ us. us ++ x.types_more) types ∙ simp append_assoc)

pub tied-group : (b : Built) → IsTied b → (ts : List Interned) → IsTied (with_group b ts)
tied-group b tied ts =
    tied-all (opened b ts) (tied-more b tied ts (b.groups ++ next_span b (length ts) ∷ [])) (length b.types) b.types ts [] refl
    (ap (λ us. b.types ++ us) (sym (append-nil ts)))

-- one index exactly for equal mapped types
pub one-index : (b : Built) → IsTied b → (i j k l : ℕ) (f g : Called) → composite_at b.types i ≡ Func f → composite_at b.types j ≡ Func g
    → trampoline_in b i ≡ Some k → trampoline_in b j ≡ Some l → (k ≡ l → mapped f ≡ mapped g) × (mapped f ≡ mapped g → k ≡ l)
one-index b tied i j k l f g at at' is is' =
    let x = tied.called i k f is at in
    let y = tied.called j l g is' at' in (
      λ same. func-same (mapped f) (mapped g) (composite_at b.types l) (ap (composite_at b.types) (sym same) ∙ (tied.known f k x).1) (tied.known g l y).1,
      λ same. let both : Some k ≡ Some l = sym x ∙ ap b.known_trampolines same ∙ y in cc,
    )

-- ---- lists

abbrev IsAt : List (Option ℕ) → ℕ → Type 0
IsAt xs i = IsSome (get_or xs i None)

at-more : (xs ys : List (Option ℕ)) (i : ℕ) → IsAt xs i → IsAt (xs ++ ys) i
at-more xs ys i s = grind (arith, cases_lt, get_or_append_left, get_or_past)

at-set : (xs : List (Option ℕ)) (i k j : ℕ) → IsAt xs j → IsAt (set xs i (Some k)) j
at-set xs i k j s = grind (arith, cases_eq, cases_lt, get_or-set_same, get_or-set_other, get_or_past)

-- ---- what has a trampoline keeps it

abbrev IsSized : Built → Type 0
IsSized b = length b.trampolines ≡ length b.types

-- each type from an index on has a trampoline
abbrev HaveFrom : ℕ → Built → Type 0
HaveFrom n b = (j : ℕ) → n ≤ j → j < length b.types → HasTrampoline b j

-- what has a trampoline keeps it, and each new type has one
record Keeps (b c : Built) : Type 0 where
  long : length b.trampolines ≤ length c.trampolines
  kept : (j : ℕ) → HasTrampoline b j → HasTrampoline c j
  sized : IsSized b → IsSized c
  from : (n : ℕ) → IsSized b → HaveFrom n b → HaveFrom n c

keeps-none : (b : Built) → Keeps b b
keeps-none b = record { long = omega arith; kept = λ j s. s; sized = λ e. e; from = λ n e h. h }

keeps-both : (b c d : Built) → Keeps b c → Keeps c d → Keeps b d
keeps-both b c d x y = grind arith

keeps-set : (b : Built) (known : Called → Option ℕ) (i k : ℕ) → Keeps b (trampoline_set b known i k)
keeps-set b known i k = grind (arith, length-set, at-set)

keeps-next : (b : Built) (known : Called → Option ℕ) (i : ℕ) (f : Called) → Keeps b (trampoline_next b known i f)
keeps-next b known i f = grind (arith, common_steps, trampoline_set, keeps-both, trampoline_next, keeps-set, length_push, at-more, cases_lt, get_or_push)

keeps-step : (b : Built) (i : ℕ) (c : Composite (Named ℕ) ℕ) → Keeps b (assign_trampoline b i c)
keeps-step = each-step Keeps keeps-none keeps-set keeps-next

keeps-steps : (b : Built) (i : ℕ) (ts : List Interned) → Keeps b (assign_trampolines b i ts)
keeps-steps = all-steps Keeps keeps-none keeps-set keeps-next keeps-both

pub kept-group : (b : Built) (ts : List Interned) (j : ℕ) → HasTrampoline b j → HasTrampoline (with_group b ts) j
kept-group b ts j s = (keeps-steps (opened b ts) (length b.types) ts).kept j (at-more b.trampolines (replicate (length ts) None) j s)

pub kept-alone : (b : Built) (t : Interned) (k : Option ℕ) (j : ℕ) → HasTrampoline b j → HasTrampoline (alone b t k) j
kept-alone b t k j s = at-more b.trampolines (k ∷ []) j s

-- ---- the members of a group

called-all : (b : Built) (i : ℕ) (ts : List Interned) (p : ℕ) (f : Called) → i + length ts ≤ length b.trampolines → composite_at ts p ≡ Func f
    → HasTrampoline (assign_trampolines b i ts) (i + p)
called-all b i [] p f le is = absurd cc
called-all b i (t ∷ ts) zero f le is = grind (arith, get_or-set_same, at-more, keeps-steps (assign_trampoline b i t.composite.inner) (suc i) ts)
called-all b i (t ∷ ts) (suc p) f le is =
    let at : suc i + p ≡ i + suc p = omega arith in
    let c = assign_trampoline b i t.composite.inner in
    grind (arith, (called-all c (suc i) ts p f (omega (arith, le, (keeps-step b i t.composite.inner).long)) is))

module _ (b : Built) (sized : IsSized b) (ts : List Interned) where
  opened-sized : IsSized (opened b ts)
  opened-sized = grind (arith, length-append, length-replicate)

  -- each function member of a group has a trampoline
  pub called-member : (i : ℕ) (f : Called) → composite_at ts i ≡ Func f → HasTrampoline (with_group b ts) (length b.types + i)
  called-member i f is = called-all (opened b ts) (length b.types) ts i f (omega (arith, opened-sized, length-append b.types ts)) is

-- ---- complete lists

-- each function has a trampoline
record Entire (b : Built) : Type 0 where
  sized : IsSized b
  called : (j : ℕ) (f : Called) → composite_at b.types j ≡ Func f → HasTrampoline b j

entire-group : (b : Built) → Entire b → (ts : List Interned) → Entire (with_group b ts)
entire-group b e ts =
    let k = keeps-steps (opened b ts) (length b.types) ts in
    let x = extends-group b ts in
    let opened_sized = opened-sized b e.sized ts in
    record {
      sized = k.sized opened_sized;
      called = λ j f is.
          elim (cases_lt j (length (b.types ++ ts))) [
            | inl low ↦
                let at = sym (composite-before (b.types ++ ts) x.types_more j low) ∙ ap (λ us. composite_at us j) (sym x.types) ∙ is in
                elim (cases_lt j (length b.types)) [
                  | inl old ↦ kept-group b ts j (e.called j f (sym (composite-before b.types ts j old) ∙ at))
                  | inr in_group ↦
                      let place : length b.types + (j - length b.types) ≡ j = omega (arith, in_group) in
                      grind (arith, called-member, composite-behind)
                ]
            | inr new ↦ k.from (length (b.types ++ ts)) opened_sized (λ n low lt. absurd (omega (arith, low, lt))) j new (within (with_group b ts).types j f is)
          ];
    }

entire : (ms : List (Group ℕ ℕ)) → Entire (taken ms).built
entire = through-taken Entire entire-group (record { sized = refl; called = λ j f is. absurd cc })

pub called-taken : (ms : List (Group ℕ ℕ)) → HaveTrampolines (length (taken ms).built.types) (taken ms).built
called-taken ms i f lt is = (entire ms).called i f is

pub called-interned : (ms : List (Group ℕ ℕ)) (tags : List ℕ) (startup : Bool) → HaveTrampolines (length (taken ms).built.types) (interned ms tags startup)
called-interned ms tags startup i f lt is =
    let x = extends-interned ms tags startup in
    let at = sym (composite-before (taken ms).built.types x.types_more i lt) ∙ ap (λ us. composite_at us i) (sym x.types) ∙ is in
    through-alone (λ c. HasTrampoline c i) (λ c t has. kept-alone c t None i has) ms tags startup (called-taken ms i f lt at)

-- ---- builders

pub builder-member : (b : Builder) (id : ℕ) (ts : List Interned) → IsTied b.built → b.ids id ≡ None → (i : ℕ) (f : Called) → composite_at ts i ≡ Func f
    → HasTrampoline (interns b id ts).built (length b.built.types + i)
builder-member b id ts tied unheld i f is =
    coe 0 1 (j. HasTrampoline (interns_by b id ts (sym unheld j)).built (length b.built.types + i)) (called-member b.built tied.sized ts i f is)

pub builder-group : (b : Builder) (id : ℕ) (ts : List Interned) (i : ℕ) → HasTrampoline b.built i → HasTrampoline (interns b id ts).built i
builder-group b id ts i has =
    elim (b.ids id) as (λ o. HasTrampoline (interns_by b id ts o).built i) [ Some k ↦ has | None ↦ kept-group b.built ts i has ]

pub builder-exception : (b : Builder) (k i : ℕ) → HasTrampoline b.built i → HasTrampoline (excepts b k).built i
builder-exception b k i has =
    elim (b.exceptions k) as (λ o. HasTrampoline (excepts_by b k o).built i) [
      | Some n ↦ has
      | None ↦ kept-alone b.built (plain (exception_for k (composite_at b.built.types k))) None i has
    ]

pub builder-startup : (b : Builder) (i : ℕ) → HasTrampoline b.built i → HasTrampoline (starts b).built i
builder-startup b i has =
    elim b.startup as (λ o. HasTrampoline (starts_by b o).built i) [ Some n ↦ has | None ↦ kept-alone b.built startup_type None i has ]

shown-at : (xs : List (Option TypeIndex)) (i : ℕ) → IsSome (get_or (map (option_map number_of) xs) i None) → IsSome (option_and_then (λ t. t) (slice_get xs i))
shown-at (None ∷ xs) zero s = absurd cc
shown-at (Some k ∷ xs) zero s = refl
shown-at (x ∷ xs) (suc i) s = shown-at xs i s
shown-at [] i s = absurd cc

pub shown : (b : BuilderState) (i : ℕ) → HasTrampoline (builder_view b).built i → IsSome (trampoline_at b.list i)
shown b i has = shown-at b.list.trampolines i has
