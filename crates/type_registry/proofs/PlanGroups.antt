-- The groups of a module are planned one after another.
use Rattle.std.proofs.Common.{if◌then◌else◌, ◌≡◌, ◌∙◌, ◌<◌, ◌≤◌, ℕ, suc, ◌+◌, ◌-◌, Bool, true, false, nat_eq, List, [], ◌∷◌, ◌++◌, length, map, get_or, Some, None, refl, sym, ap, arith}
use Rattle.std.proofs.lemmas.List.{length-append, length-map, length-take-le, length-drop, append-nil}
use Rattle.std.proofs.lemmas.Grind.{common_steps, flat_map-append}
use Rattle.wasm_spec.specs.TypeData.{map_group}
use Rattle.type_spec.specs.Names.{named}
use Rattle.type_spec.specs.Interned.{GroupSpan}
use Rattle.std.specs.declared.ops.Range.{Range}
use Rattle.std.proofs.lemmas.Option.{none-some}
use Rattle.std.proofs.lemmas.Bool.{cases_Bool}
use Rattle.entity_map.specs.Keyed.{keyed, keyed_from}
use Rattle.wasm_index.specs.declared.index.Index.{Index}
use Rattle.wasm_index.specs.declared.spaces.ModuleInternedRecGroupSpace.{ModuleInternedRecGroupSpace}
use Rattle.wasm_index.specs.Index.{index_of}
use Rattle.wasm_types.specs.declared.sub.WasmSubType.{WasmSubType}
use Rattle.wasm_types.specs.TypeViews.{group_of}
use Rattle.wasm_types.specs.declared.index.EngineOrModuleTypeIndex.{EngineOrModuleTypeIndex}
use Rattle.module_types.specs.Views.{TypeIndex, span_of, interned_of}
use Rattle.module_types.specs.TypeList.{TypeList}
use Rattle.module_types.specs.Orderly.{LieBetween}
use Rattle.module_types.specs.Conversion.{no_span}
use Rattle.module_types.proofs.Standing.{stands-at}
use Rattle.type_registry.specs.Registry.{Group, Groups, GroupsState, indices_of}
use Rattle.type_registry.specs.Changes.{Plan, begun, find_group, keep_group, keep_groups, members_of, at_first, free_indices, next_group, canonical_of, take_group, plan_group, plan_groups, size_of, with_group}
use Rattle.module_types.specs.Listed.{Listed, list_of}
use Rattle.type_registry.specs.Planning.{MayBePlanned, MayBePlannedFrom, HaveFirstFree, plan}
use Rattle.type_registry.specs.Counted.{counted}
use Rattle.type_registry.proofs.Counting.{counted-keep}
use Rattle.type_registry.proofs.Copies.{may-cons, may-use}
use Rattle.type_registry.proofs.Keeping.{Eq}
use Rattle.type_registry.proofs.FreeIndices.{free-split, free-length, free-low, free-once, not-taken}
use Rattle.type_registry.proofs.KeepingAll.{keep-length, AllUnknown, AllUnlike, AllApart, MayKeep}
use Rattle.type_registry.proofs.NewGroups.{none-of}

-- ---- the groups of a list may be planned

planned-from : (l : TypeList) (ss : List GroupSpan) (first end : ℕ) → LieBetween first ss end → ((k : ℕ) → k < length ss → MayBePlanned l (get_or ss k no_span))
    → MayBePlannedFrom l first ss
planned-from l [] first end lie each = tt
planned-from l (s ∷ ss) first end lie each = (lie.0, each 0 (omega arith), planned-from l ss s.end end lie.2 (λ k lt. each (suc k) (omega (arith, lt))))

pub may-plan : (l : TypeList) → Listed l → length l.types < 4294967295 → MayBePlannedFrom l 0 (map span_of l.groups)
may-plan l listed few = planned-from l (map span_of l.groups) 0 (length (list_of l).types) listed.well_named.orderly
    (λ k lt. grind (arith, stands-at (list_of l) listed.well_named k lt, length-map l.types interned_of, may-cons l listed k lt, may-use l listed k lt))

-- ---- groups that are found

-- a group that is planned is found, or is new
pub either-planned : (gs : Groups) (l : TypeList) (p : Plan) (s : GroupSpan) (P : Plan → Type 0)
    → ((g : Group) → find_group (canonical_of l p.listed.indices s) (gs ++ p.fresh) ≡ Some g → P (plan (with_group p.listed g) p.fresh))
    → (find_group (canonical_of l p.listed.indices s) (gs ++ p.fresh) ≡ None → P (take_group p (next_group gs p.fresh (canonical_of l p.listed.indices s) (size_of s)) None))
    → P (plan_group gs l p s)
either-planned gs l p s P h1 h2 = grind (arith, common_steps)

pub find-some : (gs es : Groups) (c : List WasmSubType) (g : Group) → find_group c gs ≡ Some g → find_group c (gs ++ es) ≡ Some g
find-some [] es c g is = absurd (none-some g is)
find-some (x ∷ gs) es c g is = let rest = find-some gs es c g in let equal = cases_Bool (Eq x.1.canonical c) in grind arith

pub find-none : (gs es : Groups) (c : List WasmSubType) → find_group c gs ≡ None → find_group c (gs ++ es) ≡ find_group c es
find-none [] es c none = refl
find-none (x ∷ gs) es c none = let rest = find-none gs es c in let equal = cases_Bool (Eq x.1.canonical c) in grind arith

-- where it is neither
pub none-first : (gs es : Groups) (c : List WasmSubType) → find_group c (gs ++ es) ≡ None → find_group c gs ≡ None
none-first gs es c none = none-of (find_group c gs) (λ g e. none-some g (sym none ∙ find-some gs es c g e))

pub none-second : (gs es : Groups) (c : List WasmSubType) → find_group c (gs ++ es) ≡ None → find_group c es ≡ None
none-second gs es c none = sym (find-none gs es c (none-first gs es c none)) ∙ none

pub found-equal : (gs : Groups) (c : List WasmSubType) (g : Group) → find_group c gs ≡ Some g → Eq g.canonical c ≡ true
found-equal [] c g is = absurd (none-some g is)
found-equal (x ∷ gs) c g is = let rest = found-equal gs c g in let equal = cases_Bool (Eq x.1.canonical c) in grind arith

-- ---- the indices of new groups

abbrev indices : ℕ × Group → List ℕ
indices e = e.1.indices

pub indices-both : (gs es : Groups) → indices_of (gs ++ es) ≡ indices_of gs ++ indices_of es
indices-both gs es = flat_map-append indices gs es

pub indices-one : (es : Groups) (e : ℕ × Group) → indices_of (es ++ e ∷ []) ≡ indices_of es ++ e.1.indices
indices-one es e = indices-both es (e ∷ []) ∙ ap (λ l. indices_of es ++ l) (append-nil e.1.indices)

-- the indices of the next new group are those that were free in turn
pub next-free : (gs es : Groups) (n : ℕ) → HaveFirstFree (indices_of gs) es
    → free_indices (indices_of (gs ++ es)) n ≡ free_indices (indices_of gs ++ free_indices (indices_of gs) (length (indices_of es))) n
next-free gs es n first = ap (λ l. free_indices l n) (indices-both gs es ∙ ap (λ l. indices_of gs ++ l) first)

pub first-more : (gs es : Groups) (c : List WasmSubType) (n : ℕ) → HaveFirstFree (indices_of gs) es
    → HaveFirstFree (indices_of gs) (es ++ at_first (next_group gs es c n) ∷ [])
first-more gs es c n first = grind (arith, common_steps, indices-one, next-free, free-split, free-length)

pub next-length : (gs es : Groups) (c : List WasmSubType) (n : ℕ) → length (indices_of (es ++ at_first (next_group gs es c n) ∷ [])) ≡ length (indices_of es) + n
next-length gs es c n = grind (arith, indices-one, length-append, free-length)

-- ---- what holds of the new groups throughout

apart-last : (es : Groups) (e : ℕ × Group) → find_group e.1.canonical es ≡ None → AllApart es → AllApart (es ++ e ∷ [])
apart-last [] e none apart = (tt, tt)
apart-last (x ∷ es) e none apart = by (Eq x.1.canonical e.1.canonical) refl none (apart-last es e) where
  unlike-last : (fs : Groups) → AllUnlike x.1 fs → Eq x.1.canonical e.1.canonical ≡ false → AllUnlike x.1 (fs ++ e ∷ [])
  unlike-last [] all differ = (differ, tt)
  unlike-last (f ∷ fs) all differ = (all.0, unlike-last fs all.1 differ)

  by : (b : Bool) → Eq x.1.canonical e.1.canonical ≡ b → (if b then Some x.1 else find_group e.1.canonical es) ≡ None
      → (find_group e.1.canonical es ≡ None → AllApart es → AllApart (es ++ e ∷ [])) → AllApart (x ∷ (es ++ e ∷ []))
  by true is none rest = absurd (none-some x.1 (sym none))
  by false is none rest = (unlike-last es apart.0 is, rest none apart.1)

unknown-last : (gs es : Groups) (e : ℕ × Group) → find_group e.1.canonical gs ≡ None → AllUnknown gs es → AllUnknown gs (es ++ e ∷ [])
unknown-last gs [] e none all = (none, tt)
unknown-last gs (x ∷ es) e none all = (all.0, unknown-last gs es e none all.1)

pub group-first : (gs : Groups) (l : TypeList) (p : Plan) (s : GroupSpan) → HaveFirstFree (indices_of gs) p.fresh
    → HaveFirstFree (indices_of gs) (plan_group gs l p s).fresh
group-first gs l p s first = grind (arith, either-planned, first-more)

-- new groups have the least indices that were free, are not kept, and no two are equal
pub record AreNew (gs es : Groups) : Type 0 where
  pub first : HaveFirstFree (indices_of gs) es
  pub unknown : AllUnknown gs es
  pub apart : AllApart es

none-new : (gs : Groups) → AreNew gs []
none-new gs = record { first = refl; unknown = tt; apart = tt }

new-group : (gs : Groups) (l : TypeList) (p : Plan) (s : GroupSpan) → AreNew gs p.fresh → AreNew gs (plan_group gs l p s).fresh
new-group gs l p s new = grind (arith, either-planned, first-more, unknown-last, none-first, apart-last, none-second)

new-groups : (gs : Groups) (l : TypeList) (p : Plan) (ss : List GroupSpan) → AreNew gs p.fresh → AreNew gs (plan_groups gs l p ss).fresh
new-groups gs l p [] new = new
new-groups gs l p (s ∷ ss) new = new-groups gs l (plan_group gs l p s) ss (new-group gs l p s new)

pub planned-new : (gs : Groups) (l : TypeList) → AreNew gs (plan_groups gs l begun (map span_of l.groups)).fresh
planned-new gs l = new-groups gs l begun (map span_of l.groups) (none-new gs)

-- new groups may be kept where there is capacity
pub new-may-keep : (s : GroupsState) (es : Groups) → AreNew s.groups es → length (indices_of s.groups) + length (indices_of es) < 4294967296
    → length es ≤ s.spare → length (indices_of s.groups) + length (indices_of es) ≤ s.room → MayKeep s es
new-may-keep s es new few spare room = grind (arith, nat_eq, free-low, not-taken, free-once)

-- ---- new groups grow only more

abbrev members : Plan → ℕ
members p = length (indices_of p.fresh)

group-grows : (gs : Groups) (l : TypeList) (p : Plan) (s : GroupSpan) → members p ≤ members (plan_group gs l p s)
group-grows gs l p s = grind (arith, either-planned, next-length)

pub groups-grow : (gs : Groups) (l : TypeList) (p : Plan) (ss : List GroupSpan) → members p ≤ members (plan_groups gs l p ss)
groups-grow gs l p [] = omega arith
groups-grow gs l p (s ∷ ss) = omega (arith, group-grows gs l p s, groups-grow gs l (plan_group gs l p s) ss)

-- ---- one group

pub mapped-long : (l : TypeList) (s : GroupSpan) (f : EngineOrModuleTypeIndex → EngineOrModuleTypeIndex) (c : List WasmSubType) → s.end ≤ length l.types
    → group_of c ≡ map_group (named f) f (group_of (members_of l s)) → length c ≡ s.end - s.start
mapped-long l s f c within is = grind (arith, length-map, length-take-le, length-drop)

module _ (gs : Groups) (l : TypeList) (p : Plan) (s : GroupSpan) (c : List WasmSubType) (is : c ≡ canonical_of l p.listed.indices s) where
  abbrev next : List WasmSubType → Group
  next x = next_group gs p.fresh x (size_of s)

  pub known-group : (g : Group) → find_group c (gs ++ p.fresh) ≡ Some g → plan_group gs l p s ≡ plan (with_group p.listed g) p.fresh
  known-group g found = ap (take_group p (next (canonical_of l p.listed.indices s))) (ap (λ x. find_group x (gs ++ p.fresh)) (sym is) ∙ found)

  pub unknown-group : find_group c (gs ++ p.fresh) ≡ None
      → plan_group gs l p s ≡ plan (with_group p.listed (next c)) (p.fresh ++ at_first (next c) ∷ [])
  unknown-group none = grind (arith, common_steps)

-- ---- the remaining groups

abbrev pub Numbered : Type 0
Numbered = Index ModuleInternedRecGroupSpace × Range TypeIndex

abbrev pub spans_left : List Numbered → List GroupSpan
spans_left es = map (λ (e : Numbered). span_of e.1) es

spans-from : (n : ℕ) (rs : List (Range TypeIndex)) → spans_left (keyed_from index_of n rs) ≡ map span_of rs
spans-from n [] = refl
spans-from n (r ∷ rs) = ap (λ l. span_of r ∷ l) (spans-from (n + 1) rs)

pub spans-keyed : (rs : List (Range TypeIndex)) → spans_left (keyed index_of rs) ≡ map span_of rs
spans-keyed rs = spans-from 0 rs

-- ---- how many groups there are, and how often modules have the new ones

count-group : (gs : Groups) (l : TypeList) (p : Plan) (s : GroupSpan) → length (plan_group gs l p s).listed.groups ≡ length p.listed.groups + 1
count-group gs l p s = grind (arith, either-planned, length-append)

count-groups : (gs : Groups) (l : TypeList) (p : Plan) (ss : List GroupSpan) → length (plan_groups gs l p ss).listed.groups ≡ length p.listed.groups + length ss
count-groups gs l p [] = omega arith
count-groups gs l p (s ∷ ss) = omega (arith, count-group gs l p s, count-groups gs l (plan_group gs l p s) ss)

-- as each group has members, there are no more groups than types
few-spans : (ss : List GroupSpan) (first end : ℕ) → LieBetween first ss end → first + length ss ≤ end
few-spans [] first end lie = omega (arith, lie)
few-spans (s ∷ ss) first end lie = omega (arith, few-spans ss s.end end lie.2, lie.0, lie.1)

pub few-groups : (gs : Groups) (l : TypeList) → Listed l → length l.types < 4294967295
    → length (plan_groups gs l begun (map span_of l.groups)).listed.groups < 4294967296
few-groups gs l listed few = grind (arith, few-spans, count-groups, length-map)

counted-last : (es : Groups) (e : ℕ × Group) → counted (es ++ e ∷ []) ≡ counted es + e.1.count
counted-last [] e = omega arith
counted-last (x ∷ es) e = omega (arith, counted-last es e)

none-counted : (gs : Groups) (l : TypeList) (p : Plan) (s : GroupSpan) → counted p.fresh ≡ 0 → counted (plan_group gs l p s).fresh ≡ 0
none-counted gs l p s none = grind (arith, either-planned, counted-last)

pub fresh-counted : (gs : Groups) (l : TypeList) (p : Plan) (ss : List GroupSpan) → counted p.fresh ≡ 0 → counted (plan_groups gs l p ss).fresh ≡ 0
fresh-counted gs l p [] none = none
fresh-counted gs l p (s ∷ ss) none = fresh-counted gs l (plan_group gs l p s) ss (none-counted gs l p s none)

pub counted-both : (gs es : Groups) → counted (keep_groups gs es) ≡ counted gs + counted es
counted-both gs [] = omega arith
counted-both gs (e ∷ es) = omega (arith, counted-both (keep_group gs e.0 e.1) es, counted-keep gs e.0 e.1)

pub length-both : (gs es : Groups) → length (indices_of (keep_groups gs es)) ≡ length (indices_of gs) + length (indices_of es)
length-both gs [] = omega arith
length-both gs (e ∷ es) = grind (arith, keep-length, length-append, (length-both (keep_group gs e.0 e.1) es))
