-- Groups and the steps that follow them: what each step keeps, all keep, and so does a complete
-- list.
use Rattle.std.proofs.Common.{◌≡◌, ◌≤◌, ◌<◌, ℕ, zero, suc, ◌+◌, List, [], ◌∷◌, ◌++◌, length, set, drop, Bool, true, false, Option, Some, None, refl, sym, ap, ◌∙◌, arith, get_or, map}
use Rattle.std.specs.Prelude.{◌==◌, if◌then◌else◌}
use Rattle.std.proofs.lemmas.List.{append_assoc, append-nil, length-append, get_or_at, get_or_append_left, drop_at, take_at}
use Rattle.wasm_spec.specs.TypeData.{Composite, Func, Group}
use Rattle.type_spec.specs.Names.{Named}
use Rattle.type_spec.specs.Interned.{Interned, Called, Built, GroupSpan, mapped, plain, alone, assign_at, assign_trampoline, assign_trampolines, composite_at, opened, with_group, next_span, exception_for, startup_type, with_exception, with_startup, Taking, empty, with_exceptions, numbered, interned_group, take_group, none_taken, taken, interned}
use Rattle.type_spec.specs.Equality.{Home}
use Rattle.entity_map.specs.Firsts.{firsts, firsts_after}
use Rattle.type_spec.specs.TakenGroups.{taken_groups}
use Rattle.module_types.specs.Orderly.{IsOrderly, LieBetween}
use Rattle.module_types.specs.Conversion.{no_span}
use Rattle.module_types.specs.ListGroups.{types_in}
use Rattle.module_types.specs.Runs.{with_groups}
use Rattle.std.specs.List.{All, fold, list_any}
use Rattle.std.proofs.lemmas.List.Elements.{All-nil, All-cons, All-head, All-tail, All-push}

-- ---- spans one after another

pub one-more : (first end later : ℕ) (ss : List GroupSpan) → LieBetween first ss end → end < later
    → LieBetween first (ss ++ record { start = end; end = later } ∷ []) later
one-more first end later [] lie more = (sym lie, more, refl)
one-more first end later (s ∷ ss) lie more = (lie.0, lie.1, one-more s.end end later ss lie.2 more)

few-from : (first end : ℕ) (ss : List GroupSpan) → LieBetween first ss end → length ss + first ≤ end
few-from first end [] lie = omega (arith, lie)
few-from first end (s ∷ ss) lie = grind (arith, (few-from s.end end ss lie.2))

-- there are no more groups than types
pub few-groups : (b : Built) → IsOrderly b → length b.groups ≤ length b.types
few-groups b orderly = omega (arith, few-from 0 (length b.types) b.groups orderly)

pub lie-to : (first end later : ℕ) (ss : List GroupSpan) → end ≡ later → LieBetween first ss end → LieBetween first ss later
lie-to first end later ss same lie = coe 0 1 (j. LieBetween first ss (same j)) lie

-- ---- one step

-- the type at an index is called by a type, where trampolines of mapped types are known
abbrev pub trampoline_set : Built → (Called → Option ℕ) → ℕ → ℕ → Built
trampoline_set b known i k = record b { trampolines = set b.trampolines i (Some k); known_trampolines = known }

-- by a new type
abbrev pub trampoline_next : Built → (Called → Option ℕ) → ℕ → Called → Built
trampoline_next b known i f = alone (trampoline_set b known i (length b.types)) (plain (Func (mapped f))) (Some (length b.types))

-- what holds between the list before and after the two holds of each step, and of all
module _ (R : Built → Built → Type 0) (none : (b : Built) → R b b)
    (called : (b : Built) (known : Called → Option ℕ) (i k : ℕ) → R b (trampoline_set b known i k))
    (next : (b : Built) (known : Called → Option ℕ) (i : ℕ) (f : Called) → R b (trampoline_next b known i f)) where
  at-function : (b : Built) (i : ℕ) (f : Called) (o : Option ℕ) → R b (assign_at b i f o)
  at-function b i f (Some k) = called b b.known_trampolines i k
  at-function b i f None = grind arith

  pub each-step : (b : Built) (i : ℕ) (c : Composite (Named ℕ) ℕ) → R b (assign_trampoline b i c)
  each-step b i c = grind (arith, at-function)

  pub all-steps : ((b c d : Built) → R b c → R c d → R b d) → (b : Built) (i : ℕ) (ts : List Interned) → R b (assign_trampolines b i ts)
  all-steps both b i [] = none b
  all-steps both b i (t ∷ ts) = grind (arith, each-step b i t.composite.inner, (all-steps both (assign_trampoline b i t.composite.inner) (suc i) ts))

-- ---- types and groups come after the others

pub record ExtendsLists (ts us : List Interned) (ss rs : List GroupSpan) : Type 0 where
  pub types_more : List Interned
  pub types : us ≡ ts ++ types_more
  pub groups_more : List GroupSpan
  pub groups : rs ≡ ss ++ groups_more

abbrev pub Extends : Built → Built → Type 0
Extends b c = ExtendsLists b.types c.types b.groups c.groups

pub extends-none : (b : Built) → Extends b b
extends-none b = record { types_more = []; types = sym (append-nil b.types); groups_more = []; groups = sym (append-nil b.groups) }

pub extends-both : (b c d : Built) → Extends b c → Extends c d → Extends b d
extends-both b c d x y = grind (arith, append_assoc)

pub extends-alone : (b : Built) (t : Interned) (k : Option ℕ) → Extends b (alone b t k)
extends-alone b t k = record { types_more = t ∷ []; types = refl; groups_more = next_span b 1 ∷ []; groups = refl }

extends-next : (b : Built) (known : Called → Option ℕ) (i : ℕ) (f : Called) → Extends b (trampoline_next b known i f)
extends-next b known i f = extends-alone b (plain (Func (mapped f))) None

pub extends-step : (b : Built) (i : ℕ) (c : Composite (Named ℕ) ℕ) → Extends b (assign_trampoline b i c)
extends-step = each-step Extends extends-none (λ b known i k. extends-none b) extends-next

pub extends-steps : (b : Built) (i : ℕ) (ts : List Interned) → Extends b (assign_trampolines b i ts)
extends-steps = all-steps Extends extends-none (λ b known i k. extends-none b) extends-next extends-both

pub extends-long : (b c : Built) → Extends b c → length b.types ≤ length c.types
extends-long b c x = omega (arith, ap length x.types, length-append b.types x.types_more)

-- the members of a group are among the types in the end
pub group-long : (b : Built) (ts : List Interned) → length b.types + length ts ≤ length (with_group b ts).types
group-long b ts = omega (arith, extends-long (opened b ts) (with_group b ts) (extends-steps (opened b ts) (length b.types) ts), length-append b.types ts)

-- a step appends at most one type
pub few-more : (b : Built) (i : ℕ) (c : Composite (Named ℕ) ℕ) → length (assign_trampoline b i c).types ≤ length b.types + 1
few-more = grind (arith, each-step, length-append)

-- ---- each step keeps the order of groups

-- a group after the others
pub orderly-more : (b : Built) (t : Interned) (ts : List Interned) → IsOrderly b
    → IsOrderly (record b { types = b.types ++ t ∷ ts; groups = b.groups ++ next_span b (length (t ∷ ts)) ∷ [] })
orderly-more b t ts orderly = grind (arith, lie-to, length-append, one-more)

pub orderly-exception : (b : Built) (i : ℕ) → IsOrderly b → IsOrderly (with_exception b i)
orderly-exception b i o = orderly-more b (plain (exception_for i (composite_at b.types i))) [] o

pub orderly-startup : (b : Built) → IsOrderly b → IsOrderly (with_startup b true)
orderly-startup b o = orderly-more b startup_type [] o

abbrev KeepsOrder : Built → Built → Type 0
KeepsOrder b c = IsOrderly b → IsOrderly c

orderly-next : (b : Built) (known : Called → Option ℕ) (i : ℕ) (f : Called) → KeepsOrder b (trampoline_next b known i f)
orderly-next b known i f o = orderly-more b (plain (Func (mapped f))) [] o

orderly-step : (b : Built) (i : ℕ) (c : Composite (Named ℕ) ℕ) → KeepsOrder b (assign_trampoline b i c)
orderly-step = each-step KeepsOrder (λ b o. o) (λ b known i k o. o) orderly-next

pub orderly-opened : (b : Built) (ts : List Interned) → 0 < length ts → IsOrderly b → IsOrderly (opened b ts)
orderly-opened b [] h o = absurd (omega arith)
orderly-opened b (t ∷ ts) h o = orderly-more b t ts o

pub orderly-group : (b : Built) (ts : List Interned) → 0 < length ts → IsOrderly b → IsOrderly (with_group b ts)
orderly-group b ts h o =
    all-steps KeepsOrder (λ b o. o) (λ b known i k o. o) orderly-next (λ b c d x y o. y (x o)) (opened b ts) (length b.types) ts (orderly-opened b ts h o)

-- ---- one member after another

pub composite-before : (ts us : List Interned) (i : ℕ) → i < length ts → composite_at (ts ++ us) i ≡ composite_at ts i
composite-before [] us i h = absurd (omega arith)
composite-before (t ∷ ts) us zero h = refl
composite-before (t ∷ ts) us (suc i) h = composite-before ts us i (omega arith)

pub composite-behind : (ts us : List Interned) (i : ℕ) → composite_at (ts ++ us) (length ts + i) ≡ composite_at us i
composite-behind [] us i = let same : 0 + i ≡ i = omega arith in ap (composite_at us) same
composite-behind (t ∷ ts) us i = grind (arith, (composite-behind ts us i))

step : (b : Built) (i : ℕ) (ts : List Interned) (at : ℕ) → at < length ts
    → assign_trampolines (assign_trampoline b i (composite_at ts at)) (suc i) (drop (suc at) ts) ≡ assign_trampolines b i (drop at ts)
step b i [] at h = absurd (omega arith)
step b i (t ∷ ts) zero h = refl
step b i (t ∷ ts) (suc at) h = step b i ts at (omega arith)

-- the types from `first` to i have their trampolines
pub record Along (old now : Built) (first i : ℕ) : Type 0 where
  pub rest : assign_trampolines now i (drop i old.types) ≡ assign_trampolines old first (drop first old.types)
  pub extends : Extends old now
  pub orderly : IsOrderly now

pub along-none : (old : Built) (first : ℕ) → IsOrderly old → Along old old first first
along-none old first o = record { rest = refl; extends = extends-none old; orderly = o }

module _ (old now : Built) (first i : ℕ) (a : Along old now first i) (h : i < length old.types) where
  abbrev made : Built
  made = assign_trampoline now i (composite_at now.types i)

  stepped : assign_trampolines made (suc i) (drop (suc i) old.types) ≡ assign_trampolines old first (drop first old.types)
  stepped = grind (arith, composite-before, step)

  pub along-more : (later : Built) → later ≡ made → Along old later first (i + 1)
  along-more later is = grind (arith, stepped, extends-both, extends-step, orderly-step)

  -- no step makes more types than there are in the end
  pub along-room : length made.types ≤ length (assign_trampolines old first (drop first old.types)).types
  along-room = grind (arith, extends-long, extends-steps, stepped)

-- ---- where groups are

-- what a list has where a group was opened
module _ (b : Built) (ts : List Interned) (c : Built) (x : Extends (opened b ts) c) where
  pub types-apart : c.types ≡ b.types ++ (ts ++ x.types_more)
  types-apart = x.types ∙ append_assoc b.types ts x.types_more

  pub groups-apart : c.groups ≡ b.groups ++ next_span b (length ts) ∷ x.groups_more
  groups-apart = x.groups ∙ append_assoc b.groups (next_span b (length ts) ∷ []) x.groups_more

  pub group-within : length b.groups < length c.groups
  group-within = omega (arith, ap length groups-apart, length-append b.groups (next_span b (length ts) ∷ x.groups_more))

  pub span-new : get_or c.groups (length b.groups) no_span ≡ next_span b (length ts)
  span-new = ap (λ ss. get_or ss (length b.groups) no_span) groups-apart ∙ get_or_at b.groups (next_span b (length ts)) x.groups_more no_span (length b.groups) refl

  pub span-old : (n : ℕ) → n < length b.groups → get_or c.groups n no_span ≡ get_or b.groups n no_span
  span-old n lt = grind (arith, groups-apart, get_or_append_left)

  pub types-new : types_in c.types (next_span b (length ts)) ≡ ts
  types-new = grind (arith, types-apart, drop_at, take_at)

pub extends-group : (b : Built) (ts : List Interned) → Extends (opened b ts) (with_group b ts)
extends-group b ts = extends-steps (opened b ts) (length b.types) ts

pub extends-more : (b : Built) (ts : List Interned) → Extends b (with_group b ts)
extends-more b ts =
    extends-both b (opened b ts) (with_group b ts) (record { types_more = ts; types = refl; groups_more = next_span b (length ts) ∷ []; groups = refl })
    (extends-group b ts)

pub extends-groups : (b : Built) (tss : List (List Interned)) → Extends b (with_groups b tss)
extends-groups b [] = extends-none b
extends-groups b (ts ∷ tss) = extends-both b (with_group b ts) (with_groups b (ts ∷ tss)) (extends-more b ts) (extends-groups (with_group b ts) tss)

-- the first group, and what comes after it
pub first-group : (b : Built) (ts : List Interned) (tss : List (List Interned)) → Extends (opened b ts) (with_groups b (ts ∷ tss))
first-group b ts tss =
    extends-both (opened b ts) (with_group b ts) (with_groups b (ts ∷ tss)) (extends-group b ts) (extends-groups (with_group b ts) tss)

-- a group that is not empty leaves more types
pub longer : (b : Built) (ts : List Interned) (tss : List (List Interned)) → 0 < length ts → b.types ≡ (with_groups b (ts ∷ tss)).types → ⊥
longer b ts tss filled same = grind (arith, first-group b ts tss, types-apart, length-append)

-- ---- what each group keeps holds of the groups taken of a module

module _ (P : Built → Type 0) (group : (b : Built) → P b → (ts : List Interned) → P (with_group b ts)) where
  through-groups : (all : List (Group ℕ ℕ)) (hs : List Home) (t : Taking) → P t.built → P (fold (take_group all) t hs).built
  through-groups all [] t p = p
  through-groups all (h ∷ hs) t p =
      through-groups all hs (take_group all t h) (group t.built p (interned_group all (numbered all t.number h (length t.built.types)) h.members))

  pub through-taken : P empty → (ms : List (Group ℕ ℕ)) → P (taken ms).built
  through-taken p ms = through-groups ms (taken_groups ms) none_taken p

-- ---- what exception types and the startup type keep holds of the complete list

-- what holds of each index holds of the tags
all-each : {A : Type 0} (Q : ℕ → Type 0) (number : A → ℕ) → ((x : A) → Q (number x)) → (xs : List A) → All Q (map number xs)
all-each Q number each [] = All-nil Q
all-each Q number each (x ∷ xs) = All-cons Q (number x) (map number xs) (each x) (all-each Q number each xs)

module _ (P : Built → Type 0) (Q : ℕ → Type 0) (exception : (b : Built) (i : ℕ) → Q i → P b → P (with_exception b i))
    (last : (b : Built) → P b → P (alone b startup_type None)) where
  all-firsts : (is known : List ℕ) → All Q is → All Q known → All Q (firsts_after known is)
  all-firsts [] known all old = old
  all-firsts (i ∷ is) known all old = by (list_any (λ k. k == i) known) (all-firsts is) where
    by : (there : Bool) → ((ks : List ℕ) → All Q is → All Q ks → All Q (firsts_after ks is))
        → All Q (firsts_after (if there then known else known ++ i ∷ []) is)
    by true rest = rest known (All-tail Q i is all) old
    by false rest = rest (known ++ i ∷ []) (All-tail Q i is all) (All-push Q known i old (All-head Q i is all))

  through-exceptions : (is : List ℕ) (b : Built) → All Q is → P b → P (fold with_exception b is)
  through-exceptions [] b all p = p
  through-exceptions (i ∷ is) b all p = through-exceptions is (with_exception b i) (All-tail Q i is all) (exception b i (All-head Q i is all) p)

  pub through-interned : (ms : List (Group ℕ ℕ)) (tags : List ℕ) (startup : Bool) → ((i : ℕ) → Q (get_or (taken ms).declared i 0)) → P (taken ms).built
      → P (interned ms tags startup)
  through-interned ms tags startup each p =
      let number : ℕ → ℕ = λ i. get_or (taken ms).declared i 0 in
      let all : P (with_exceptions (taken ms).built (map number tags)) =
      through-exceptions (firsts (map number tags)) (taken ms).built (all-firsts (map number tags) [] (all-each Q number each tags) (All-nil Q)) p in
      elim startup as (λ s. P (with_startup (with_exceptions (taken ms).built (map number tags)) s)) [ true ↦ last _ all | false ↦ all ]

-- what a type keeps that comes after the others
pub through-alone : (P : Built → Type 0) → ((b : Built) (t : Interned) → P b → P (alone b t None))
    → (ms : List (Group ℕ ℕ)) (tags : List ℕ) (startup : Bool) → P (taken ms).built → P (interned ms tags startup)
through-alone P more ms tags startup p =
    through-interned P (λ i. Unit {0}) (λ b i all p. more b (plain (exception_for i (composite_at b.types i))) p) (λ b p. more b startup_type p) ms tags startup
    (λ i. tt) p

pub extends-interned : (ms : List (Group ℕ ℕ)) (tags : List ℕ) (startup : Bool) → Extends (taken ms).built (interned ms tags startup)
extends-interned ms tags startup =
    let b = (taken ms).built in
    through-alone (Extends b) (λ c t x. extends-both b c (alone c t None) x (extends-alone c t None)) ms tags startup (extends-none b)
