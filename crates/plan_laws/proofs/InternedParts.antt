-- The interned types of a module have at most six parts for each part of its declared types, where
-- a field counts twice that has a place in a layout: a function type has at most one trampoline,
-- and each of the two at most one exception type.
use Rattle.std.proofs.Common.{◌≡◌, ◌∙◌, ◌≤◌, ◌<◌, ◌+◌, ◌*◌, ℕ, zero, suc, Bool, true, false, cond, List, [], ◌∷◌, ◌++◌, length, map, get_or, Option, Some, None, sum, sum_by, refl, sym, ap, arith, inl, inr}
use Rattle.std.specs.Prelude.{◌==◌, nat_lt, if◌then◌else◌}
use Rattle.std.specs.List.{fold, list_any}
use Rattle.std.proofs.lemmas.Bool.{cases_lt, cases_eq, lt-ltb, le-ltb, eq-eqb, ne_eqb}
use Rattle.std.proofs.lemmas.List.{length-map}
use Rattle.std.proofs.lemmas.List.Sums.{sum_by-cons, sum_by-append, sum_by_push}
use Rattle.wasm_spec.specs.TypeData.{Composite, Func, Array, Struct, Cont, Exn, SubType, Group, map_composite, map_sub_type, map_group, map_value, map_field}
use Rattle.type_spec.specs.Names.{Named}
use Rattle.entity_map.specs.Firsts.{firsts, firsts_after}
use Rattle.type_spec.specs.Equality.{Home, home, home_from}
use Rattle.type_spec.specs.Interned.{Interned, Called, Built, Taking, plain, passed, mapped, same_mapped, knows, with_trampoline, alone, assign_at, assign_trampoline, assign_trampolines, opened, with_group, kind_at, numbered, interned_group, taken, exception_for, field_for, composite_at, with_exception, with_exceptions, startup_type, with_startup, interned}
use Rattle.type_spec.proofs.Homes.{joined, size, size-cons, in_front, behind}
use Rattle.module_types.proofs.Taking.{state, through-places, starts-here}

-- ---- parts

-- the fields of a type, or its parameters and results
abbrev pub parts : {H R : Type 0} → Composite H R → ℕ
parts (Func f) = length f.params + length f.results
parts (Array field) = 1
parts (Struct fields) = length fields
parts (Cont function) = 0
parts (Exn e) = length e.fields

abbrev pub member_parts : {H R : Type 0} → SubType H R → ℕ
member_parts t = parts t.composite.inner

module _ {H R H' R' : Type 0} (h : H → H') (f : R → R') where
  parts-map : (c : Composite H R) → parts (map_composite h f c) ≡ parts c
  parts-map (Func t) = omega (arith, length-map t.params (map_value h), length-map t.results (map_value h))
  parts-map (Array t) = refl
  parts-map (Struct t) = length-map t (map_field h)
  parts-map (Cont t) = refl
  parts-map (Exn t) = length-map t.fields (map_field h)

  pub group-parts : (g : Group H R) → sum_by member_parts (map_group h f g) ≡ sum_by member_parts g
  group-parts [] = refl
  group-parts (t ∷ ts) = omega (
    arith,
    parts-map t.composite.inner,
    group-parts ts,
    sum_by-cons member_parts t ts,
    sum_by-cons member_parts (map_sub_type h f t) (map_group h f ts),
  )

-- ---- weights of interned types

-- a field of a struct or an exception has a place in a layout too
abbrev pub weight : Composite (Named ℕ) ℕ → ℕ
weight (Func f) = length f.params + length f.results
weight (Array field) = 1
weight (Struct fields) = 2 * length fields
weight (Cont function) = 0
weight (Exn e) = 2 * length e.fields

abbrev pub type_weight : Interned → ℕ
type_weight t = weight t.composite.inner

abbrev built_weight : Built → ℕ
built_weight b = sum_by type_weight b.types

-- what the trampoline of a type weighs
abbrev called : Composite (Named ℕ) ℕ → ℕ
called (Func f) = length f.params + length f.results
called c = 0

abbrev called_weight : Interned → ℕ
called_weight t = called t.composite.inner

twice : (c : Composite (Named ℕ) ℕ) → weight c + called c ≤ 2 * parts c
twice (Func f) = omega arith
twice (Array f) = omega arith
twice (Struct fs) = omega arith
twice (Cont i) = omega arith
twice (Exn e) = omega arith

members-twice : (ts : List Interned) → sum_by type_weight ts + sum_by called_weight ts ≤ 2 * sum_by member_parts ts
members-twice [] = omega arith
members-twice (t ∷ ts) = omega (arith, twice t.composite.inner, members-twice ts, sum_by-cons type_weight t ts, sum_by-cons called_weight t ts, sum_by-cons member_parts t ts)

-- ---- trampolines

-- a new type for a mapped type
abbrev trampoline_next : Built → ℕ → Called → Built
trampoline_next b i f = let k = length b.types in alone (with_trampoline (knows b (mapped f) k) i k) (plain (Func (mapped f))) (Some k)

step-new : (b : Built) (i : ℕ) (f : Called) (same : Bool)
    → built_weight (if same then with_trampoline (knows b (mapped f) i) i i else trampoline_next b i f) ≤ built_weight b + (length f.params + length f.results)
step-new b i f true = omega arith
step-new b i f false = omega (arith, sum_by_push type_weight b.types (plain (Func (mapped f))), length-map f.params passed, length-map f.results passed)

step-function : (b : Built) (i : ℕ) (f : Called) (o : Option ℕ) → built_weight (assign_at b i f o) ≤ built_weight b + (length f.params + length f.results)
step-function b i f (Some k) = omega arith
step-function b i f None = step-new b i f (same_mapped (mapped f) f)

step : (b : Built) (i : ℕ) (c : Composite (Named ℕ) ℕ) → built_weight (assign_trampoline b i c) ≤ built_weight b + called c
step b i (Func f) = step-function b i f (b.known_trampolines (mapped f))
step b i (Array f) = omega arith
step b i (Struct fs) = omega arith
step b i (Cont k) = omega arith
step b i (Exn e) = omega arith

steps : (ts : List Interned) (b : Built) (i : ℕ) → built_weight (assign_trampolines b i ts) ≤ built_weight b + sum_by called_weight ts
steps [] b i = omega arith
steps (t ∷ ts) b i = omega (arith, step b i t.composite.inner, steps ts (assign_trampoline b i t.composite.inner) (suc i), sum_by-cons called_weight t ts)

group-light : (b : Built) (ts : List Interned) → built_weight (with_group b ts) ≤ built_weight b + 2 * sum_by member_parts ts
group-light b ts = omega (arith, steps ts (opened b ts) (length b.types), sum_by-append type_weight b.types ts, members-twice ts)

-- ---- groups that start before a position

-- the parts of a group that starts before a position
abbrev before_in : ℕ → ℕ → Group ℕ ℕ → ℕ
before_in start n g = cond (nat_lt start n) (sum_by member_parts g) 0

abbrev before : ℕ → ℕ → List (Group ℕ ℕ) → ℕ
before start n [] = 0
before start n (g ∷ gs) = before_in start n g + before (start + length g) n gs

starts-before : (start n : ℕ) (g : Group ℕ ℕ) → start < n → before_in start n g ≡ sum_by member_parts g
starts-before start n g lt = rw (lt-ltb start n lt) refl

starts-behind : (start n : ℕ) (g : Group ℕ ℕ) → n ≤ start → before_in start n g ≡ 0
starts-behind start n g le = rw (le-ltb start n le) refl

one-later : (start n : ℕ) (g : Group ℕ ℕ) → before_in start n g ≤ before_in start (n + 1) g
one-later start n g = elim (cases_lt start n) [
  | inl lt ↦ omega (arith, starts-before start n g lt, starts-before start (n + 1) g (omega (arith, lt)))
  | inr le ↦ omega (arith, starts-behind start n g le)
]

later : (start n : ℕ) (gs : List (Group ℕ ℕ)) → before start n gs ≤ before start (n + 1) gs
later start n [] = omega arith
later start n (g ∷ gs) = omega (arith, one-later start n g, later (start + length g) n gs)

-- a group that starts at the position adds its parts
one-more : (start n : ℕ) (gs : List (Group ℕ ℕ)) → start ≤ n → n < start + size gs → (home_from start gs n).start ≡ n
    → before start n gs + sum_by member_parts (home_from start gs n).members ≤ before start (n + 1) gs
one-more start n [] low lt at = absurd (omega (arith, low, lt))
one-more start n (g ∷ gs) low lt at = elim (cases_lt n (start + length g)) [
  | inl here ↦ (let is = in_front start g gs n here in
      let same : start ≡ n = sym (ap (λ (h : Home). h.start) is) ∙ at in
      let members = ap (λ (h : Home). sum_by member_parts h.members) is in
      omega (
        arith,
        same,
        members,
        starts-behind start n g (omega (arith, same)),
        starts-before start (n + 1) g (omega (arith, same)),
        later (start + length g) n gs,
      ))
  | inr behind-it ↦ (let is = behind start g gs n behind-it in
      let rest = one-more (start + length g) n gs behind-it (omega (arith, lt, size-cons g gs)) (sym (ap (λ (h : Home). h.start) is) ∙ at) in
      let members = ap (λ (h : Home). sum_by member_parts h.members) is in
      omega (arith, rest, members, one-later start n g))
]

all-before : (start n : ℕ) (gs : List (Group ℕ ℕ)) → before start n gs ≤ sum_by member_parts (joined gs)
all-before start n [] = omega arith
all-before start n (g ∷ gs) = elim (cases_lt start n) [
  | inl lt ↦ omega (arith, starts-before start n g lt, all-before (start + length g) n gs, sum_by-append member_parts g (joined gs))
  | inr le ↦ omega (arith, starts-behind start n g le, all-before (start + length g) n gs, sum_by-append member_parts g (joined gs))
]

-- ---- the groups that are taken

module _ (all : List (Group ℕ ℕ)) where
  abbrev Light : ℕ → List Home → Taking → Type 0
  Light n done t = built_weight t.built ≤ 2 * before 0 n all

  light-from : (n : ℕ) → n ≤ size all → built_weight (state all n).built ≤ 2 * before 0 n all
  light-from n le =
      through-places all Light (omega arith)
      (λ n lt light met. omega (arith, light, later 0 n all))
      (λ n lt light unmet.
      let s = state all n in
      let h = home all n in
      let number = numbered all s.number h (length s.built.types) in
      let group = group-light s.built (interned_group all number h.members) in
      let same = group-parts {H' = Named ℕ} (λ i. record { kind = kind_at all i; index = number i }) number h.members in
      let more = one-more 0 n all (omega arith) (omega (arith, lt)) (starts-here all n lt unmet) in
      omega (arith, light, group, same, more))
      n le

  pub taken-light : built_weight (taken all).built ≤ 2 * sum_by member_parts (joined all)
  taken-light = omega (arith, light-from (size all) (omega arith), all-before 0 (size all) all)

-- ---- each of some numbers once

abbrev number_at : List ℕ → ℕ → ℕ
number_at ws k = get_or ws k 0

-- with 0 at a position
abbrev cut : ℕ → List ℕ → List ℕ
cut n [] = []
cut zero (w ∷ ws) = 0 ∷ ws
cut (suc n) (w ∷ ws) = w ∷ cut n ws

cut-sum : (n : ℕ) (ws : List ℕ) → number_at ws n + sum (cut n ws) ≡ sum ws
cut-sum n [] = omega arith
cut-sum zero (w ∷ ws) = omega (arith, sum_by-cons (λ (k : ℕ). k) w ws, sum_by-cons (λ (k : ℕ). k) 0 ws)
cut-sum (suc n) (w ∷ ws) = omega (arith, cut-sum n ws, sum_by-cons (λ (k : ℕ). k) w ws, sum_by-cons (λ (k : ℕ). k) w (cut n ws))

cut-at : (n k : ℕ) (ws : List ℕ) → (k ≡ n → ⊥) → number_at (cut n ws) k ≡ number_at ws k
cut-at n k [] other = refl
cut-at zero zero (w ∷ ws) other = absurd (other refl)
cut-at zero (suc k) (w ∷ ws) other = refl
cut-at (suc n) zero (w ∷ ws) other = refl
cut-at (suc n) (suc k) (w ∷ ws) other = cut-at n k ws (λ e. other (ap suc e))

cut-others : (n : ℕ) (ws known : List ℕ) → list_any (λ k. k == n) known ≡ false → sum_by (number_at (cut n ws)) known ≡ sum_by (number_at ws) known
cut-others n ws [] none = refl
cut-others n ws (k ∷ known) none = elim (cases_eq k n) [
  | inl e ↦ (let yes : list_any (λ k. k == n) (k ∷ known) ≡ true = rw (eq-eqb k n e) refl in absurd (let no : true ≡ false = sym yes ∙ none in cc))
  | inr ne ↦ (let rest : list_any (λ k. k == n) known ≡ false = rw (ne_eqb k n ne) at none in
      omega (arith, cut-at n k ws ne, cut-others n ws known rest, sum_by-cons (number_at ws) k known, sum_by-cons (number_at (cut n ws)) k known))
]

-- what stands at some positions is no more than the sum
abbrev Within : List ℕ → Type 0
Within known = (ws : List ℕ) → sum_by (number_at ws) known ≤ sum ws

within-more : (n : ℕ) (known : List ℕ) → list_any (λ k. k == n) known ≡ false → Within known → Within (known ++ n ∷ [])
within-more n known none within ws =
    omega (arith, within (cut n ws), cut-sum n ws, cut-others n ws known none, sum_by_push (number_at ws) known n)

within-firsts : (ns known : List ℕ) → Within known → Within (firsts_after known ns)
within-firsts [] known within = within
within-firsts (n ∷ ns) known within = by (list_any (λ k. k == n) known) refl (within-firsts ns) where
  by : (there : Bool) → list_any (λ k. k == n) known ≡ there → ((ks : List ℕ) → Within ks → Within (firsts_after ks ns))
      → Within (firsts_after (if there then known else known ++ n ∷ []) ns)
  by true e rest = rest known within
  by false e rest = rest (known ++ n ∷ []) (within-more n known e within)

-- ---- exception types

-- what the exception type of a function type weighs
abbrev excepted : Composite (Named ℕ) ℕ → ℕ
excepted (Func f) = 2 * length f.params
excepted c = 0

abbrev excepted_at : List Interned → ℕ → ℕ
excepted_at ts k = excepted (composite_at ts k)

excepted-weight : (k : ℕ) (c : Composite (Named ℕ) ℕ) → weight (exception_for k c) ≡ excepted c
excepted-weight k (Func f) = omega (arith, length-map f.params field_for)
excepted-weight k (Array f) = refl
excepted-weight k (Struct fs) = refl
excepted-weight k (Cont i) = refl
excepted-weight k (Exn e) = refl

excepted-light : (c : Composite (Named ℕ) ℕ) → excepted c ≤ 2 * weight c
excepted-light (Func f) = omega arith
excepted-light (Array f) = omega arith
excepted-light (Struct fs) = omega arith
excepted-light (Cont i) = omega arith
excepted-light (Exn e) = omega arith

abbrev excepted_weights : List Interned → List ℕ
excepted_weights ts = map (λ (t : Interned). excepted t.composite.inner) ts

all-excepted : (ts : List Interned) → sum (excepted_weights ts) ≤ 2 * sum_by type_weight ts
all-excepted [] = omega arith
all-excepted (t ∷ ts) = omega (arith, excepted-light t.composite.inner, all-excepted ts, sum_by-cons (λ (k : ℕ). k) (excepted t.composite.inner) (excepted_weights ts), sum_by-cons type_weight t ts)

weight-at : (ts : List Interned) (k : ℕ) → excepted_at ts k ≡ number_at (excepted_weights ts) k
weight-at [] k = refl
weight-at (t ∷ ts) zero = refl
weight-at (t ∷ ts) (suc k) = weight-at ts k

-- an exception type has no exception type of its own
exception-none : (n : ℕ) (c : Composite (Named ℕ) ℕ) → excepted (exception_for n c) ≡ 0
exception-none n (Func f) = refl
exception-none n (Array f) = refl
exception-none n (Struct fs) = refl
exception-none n (Cont i) = refl
exception-none n (Exn e) = refl

one-behind : (ts : List Interned) (t : Interned) → excepted t.composite.inner ≡ 0 → (k : ℕ) → excepted_at (ts ++ t ∷ []) k ≡ excepted_at ts k
one-behind [] t none zero = none
one-behind [] t none (suc k) = refl
one-behind (u ∷ us) t none zero = refl
one-behind (u ∷ us) t none (suc k) = one-behind us t none k

exceptions-light : (ks : List ℕ) (b : Built) → built_weight (fold with_exception b ks) ≡ built_weight b + sum_by (excepted_at b.types) ks
exceptions-light [] b = omega arith
exceptions-light (k ∷ ks) b =
    let c = composite_at b.types k in
    let t = plain (exception_for k c) in
    let rest = exceptions-light ks (with_exception b k) in
    let same : sum_by (excepted_at (b.types ++ t ∷ [])) ks ≡ sum_by (excepted_at b.types) ks = λ i. sum_by (λ j. one-behind b.types t (exception-none k c) j i) ks in
    omega (arith, rest, same, sum_by_push type_weight b.types t, excepted-weight k c, sum_by-cons (excepted_at b.types) k ks)

with-exceptions-light : (b : Built) (ns : List ℕ) → built_weight (with_exceptions b ns) ≤ 3 * built_weight b
with-exceptions-light b ns =
    let ks = firsts ns in
    let each : sum_by (excepted_at b.types) ks ≡ sum_by (number_at (excepted_weights b.types)) ks = λ i. sum_by (λ k. weight-at b.types k i) ks in
    let within : Within ks = within-firsts ns [] (λ ws. omega arith) in
    omega (arith, exceptions-light ks b, each, within (excepted_weights b.types), all-excepted b.types)

startup-light : (b : Built) (startup : Bool) → built_weight (with_startup b startup) ≡ built_weight b
startup-light b false = refl
startup-light b true = omega (arith, sum_by_push type_weight b.types startup_type)

-- ---- the interned types of a module

pub interned-light : (groups : List (Group ℕ ℕ)) (tags : List ℕ) (startup : Bool)
    → sum_by type_weight (interned groups tags startup).types ≤ 6 * sum_by member_parts (joined groups)
interned-light groups tags startup =
    let t = taken groups in
    let ns = map (λ i. get_or t.declared i 0) tags in
    omega (arith, startup-light (with_exceptions t.built ns) startup, with-exceptions-light t.built ns, taken-light groups)
