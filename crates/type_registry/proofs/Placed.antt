-- Where the groups of a planned module are kept.
use Rattle.std.proofs.Common.{if◌then◌else◌, ◌≡◌, ◌∙◌, ◌↔◌, ◌<◌, ◌≤◌, ℕ, zero, suc, ◌+◌, Bool, true, false, List, [], ◌∷◌, ◌++◌, length, slice_get, take, drop, Some, None, sym, ap, subst, arith}
use Rattle.std.specs.Prelude.{⊤}
use Rattle.std.proofs.lemmas.List.{length-append, get_or_append_left, take-append-le, drop-append-le, length-drop, take_all, append-nil, append_assoc}
use Rattle.std.proofs.lemmas.Option.{none-some, same_Some, slice_get-get_or}
use Rattle.std.proofs.Math.ListN.{drop_of_length-le}
use Rattle.std.proofs.lemmas.Bool.Decides.{nat_tests}
use Rattle.wasm_spec.specs.TypeData.{map_group}
use Rattle.type_spec.specs.Names.{named}
use Rattle.type_spec.specs.Interned.{GroupSpan}
use Rattle.wasm_types.specs.declared.index.EngineOrModuleTypeIndex.{EngineOrModuleTypeIndex}
use Rattle.wasm_types.specs.declared.sub.WasmSubType.{WasmSubType}
use Rattle.wasm_types.specs.TypeViews.{group_of}
use Rattle.wasm_trace.specs.Canonical.{consed_edge}
use Rattle.module_types.specs.TypeList.{TypeList}
use Rattle.module_types.specs.Orderly.{LieBetween}
use Rattle.type_registry.specs.Registry.{Group, Groups, Module, indices_of}
use Rattle.type_registry.specs.Changes.{Plan, at_first, canonical_data, canonical_of, find_group, given, members_of, next_group, plan_group, plan_groups, size_of, with_group}
use Rattle.type_registry.specs.Planning.{MayBePlanned, MayBePlannedFrom, plan}
use Rattle.type_registry.proofs.FreeIndices.{free-length}
use Rattle.type_registry.proofs.Keeping.{Eq}
use Rattle.type_registry.proofs.PlanGroups.{mapped-long, found-equal, find-some, find-none, either-planned}
use Rattle.type_registry.proofs.Seen.{had-back}
use Rattle.type_registry.proofs.Sound.{AllFirst}

-- ---- canonical members by the indices of a complete module

edge-more : (xs ys : List ℕ) (start : ℕ) → start ≤ length xs → (e : EngineOrModuleTypeIndex)
    → consed_edge (given xs) start e ≡ consed_edge (given (xs ++ ys)) start e
edge-more xs ys start h1 e = grind (arith, get_or_append_left, nat_tests)

-- indices of later types do not matter
data-more : (l : TypeList) (s : GroupSpan) (xs ys : List ℕ) → s.start ≤ length xs → canonical_data l xs s ≡ canonical_data l (xs ++ ys) s
data-more l s xs ys at =
    let same : consed_edge (given xs) s.start ≡ consed_edge (given (xs ++ ys)) s.start = (λ i. λ e. edge-more xs ys s.start at e i) in
    ap (λ (f : EngineOrModuleTypeIndex → EngineOrModuleTypeIndex). map_group (named f) f (group_of (members_of l s))) same

-- a part that is in the front
part-within : (xs ys : List ℕ) (n s : ℕ) → s + n ≤ length xs → take n (drop s (xs ++ ys)) ≡ take n (drop s xs)
part-within xs ys n s le = grind (arith, drop-append-le, take-append-le, length-drop)

-- the part after the front is the rest
part-behind : (xs ys : List ℕ) (s n : ℕ) → length xs ≡ s → length ys ≡ n → take n (drop s (xs ++ ys)) ≡ ys
part-behind xs ys s n at long = grind (arith, drop-append-le, drop_of_length-le, take_all)

-- ---- what follows from a group that is found among some

pub record IsAt (es : Groups) (g : Group) : Type 0 where
  pub place : ℕ
  pub first : ℕ
  pub at : slice_get es place ≡ Some (first, g)

pub find-at : (es : Groups) (c : List WasmSubType) (g : Group) → find_group c es ≡ Some g → IsAt es g
find-at [] c g is = absurd (none-some g is)
find-at (e ∷ es) c g is = by (Eq e.1.canonical c) is (find-at es c g) where
  by : (b : Bool) → (if b then Some e.1 else find_group c es) ≡ Some g → (find_group c es ≡ Some g → IsAt es g) → IsAt (e ∷ es) g
  by true is rest = record { place = 0; first = e.0; at = ap (λ (x : Group). Some (e.0, x)) (same_Some e.1 g is) }
  by false is rest = let w = rest is in record { place = suc w.place; first = w.first; at = w.at }

pub first-at : (es : Groups) (p f : ℕ) (g : Group) → AllFirst es → slice_get es p ≡ Some (f, g)
    → (slice_get g.indices 0 ≡ Some f) × (length g.indices ≡ length g.canonical)
first-at [] p f g first at = absurd (none-some (f, g) at)
first-at (e ∷ es) zero f g first at = grind arith
first-at (e ∷ es) (suc p) f g first at = first-at es p f g first.2 at

pub first-both : (xs ys : Groups) → AllFirst xs → AllFirst ys → AllFirst (xs ++ ys)
first-both [] ys a b = b
first-both (x ∷ xs) ys a b = (a.0, a.1, first-both xs ys a.2 b)

-- ---- each group of a plan

-- it has the indices of its members, and these members; and it is found among kept and new groups
pub record IsPlanned (gs : Groups) (l : TypeList) (p : Plan) (s : GroupSpan) : Type 0 where
  pub group : Group
  pub at : group.indices ≡ take (size_of s) (drop s.start p.listed.indices)
  pub canonical : group_of group.canonical ≡ canonical_data l p.listed.indices s
  pub low : s.start < s.end
  pub within : s.end ≤ length p.listed.indices
  pub among : find_group group.canonical (gs ++ p.fresh) ≡ Some group

-- it remains so where more groups follow
planned-more : (gs : Groups) (l : TypeList) (listed : Module) (es fs : Groups) (ns firsts : List ℕ) (s : GroupSpan)
    → IsPlanned gs l (plan listed es) s → IsPlanned gs l (plan (record { indices = listed.indices ++ ns; groups = firsts }) (es ++ fs)) s
planned-more gs l listed es fs ns firsts s w =
    grind (arith, part-within, data-more l s listed.indices ns (omega (arith, w.low, w.within)), length-append, append_assoc, find-some)

module _ (equal : (x y : List WasmSubType) → (Eq x y ≡ true) ↔ (x ≡ y)) (gs : Groups) (l : TypeList) where
  -- the group that is planned
  module _ (p : Plan) (s : GroupSpan) (may : MayBePlanned l s) (at : length p.listed.indices ≡ s.start) (first : AllFirst (gs ++ p.fresh)) where
    abbrev c : List WasmSubType
    c = canonical_of l p.listed.indices s

    form : group_of c ≡ canonical_data l p.listed.indices s
    form = had-back (canonical_data l p.listed.indices s)

    pub size : length c ≡ size_of s
    size = mapped-long l s (consed_edge (given p.listed.indices) s.start) c may.within form

    known-long : (g : Group) → find_group c (gs ++ p.fresh) ≡ Some g → length g.indices ≡ size_of s
    known-long g is = grind (arith, find-at (gs ++ p.fresh) c g is, found-equal (gs ++ p.fresh) c g is, first-at, size)

    known : (g : Group) → find_group c (gs ++ p.fresh) ≡ Some g → IsPlanned gs l (plan (with_group p.listed g) p.fresh) s
    known g is =
        grind (arith, found-equal (gs ++ p.fresh) c g is, known-long g is, data-more l s p.listed.indices g.indices (omega (arith, at)), length-append p.listed.indices g.indices, part-behind, form)

    abbrev new : Group
    new = next_group gs p.fresh c (size_of s)

    new-long : length new.indices ≡ size_of s
    new-long = free-length (indices_of (gs ++ p.fresh)) (size_of s)

    unknown : find_group c (gs ++ p.fresh) ≡ None → IsPlanned gs l (plan (with_group p.listed new) (p.fresh ++ at_first new ∷ [])) s
    unknown none =
        record {
          group = new;
          at = sym (part-behind p.listed.indices new.indices s.start (size_of s) at new-long);
          canonical = form ∙ data-more l s p.listed.indices new.indices (omega (arith, at));
          low = may.some;
          within = omega (arith, length-append p.listed.indices new.indices, at, new-long, may.some);
          among = grind (arith, append_assoc, find-none);
        }

    new-first : AllFirst (at_first new ∷ [])
    new-first = grind (arith, slice_get-get_or, new-long, size)

    -- what is known once the group is planned
    pub record IsNext (q : Plan) : Type 0 where
      pub here : IsPlanned gs l q s
      pub firsts : AllFirst (gs ++ q.fresh)
      pub long : length q.listed.indices ≡ s.end
      pub still : (t : GroupSpan) → IsPlanned gs l p t → IsPlanned gs l q t

    pub is-next : IsNext (plan_group gs l p s)
    is-next = grind (arith, append-nil p.fresh, planned-more, unknown, append_assoc, first-both, length-append, new-long, new-first, either-planned, known, known-long)

  -- each group of some
  abbrev pub EachPlanned : Plan → List GroupSpan → Type 0
  EachPlanned p [] = ⊤
  EachPlanned p (s ∷ ss) = IsPlanned gs l p s × EachPlanned p ss

  -- all groups of a plan, once the remaining ones are planned
  pub record ArePlanned (p : Plan) (ss : List GroupSpan) (end : ℕ) : Type 0 where
    pub each : EachPlanned (plan_groups gs l p ss) ss
    pub first : AllFirst (gs ++ (plan_groups gs l p ss).fresh)
    pub long : length (plan_groups gs l p ss).listed.indices ≡ end
    pub still : (t : GroupSpan) → IsPlanned gs l p t → IsPlanned gs l (plan_groups gs l p ss) t

  pub are-planned : (p : Plan) (ss : List GroupSpan) (end : ℕ) → MayBePlannedFrom l (length p.listed.indices) ss → LieBetween (length p.listed.indices) ss end
      → AllFirst (gs ++ p.fresh) → ArePlanned p ss end
  are-planned p [] end may lie first = record { each = tt; first = first; long = lie; still = λ t x. x }
  are-planned p (s ∷ ss) end may lie first =
      let n = is-next p s may.1 (sym may.0) first in
      let rest = are-planned (plan_group gs l p s) ss end (rw n.long may.2) (rw n.long lie.2) n.firsts in
      grind arith

  pub planned-at : (p : Plan) (ss : List GroupSpan) (k : ℕ) (s : GroupSpan) → EachPlanned p ss → slice_get ss k ≡ Some s → IsPlanned gs l p s
  planned-at p [] k s each at = absurd (none-some s at)
  planned-at p (t ∷ ss) zero s each at = subst (λ x. IsPlanned gs l p x) (same_Some t s at) each.0
  planned-at p (t ∷ ss) (suc k) s each at = planned-at p ss k s each.1 at
