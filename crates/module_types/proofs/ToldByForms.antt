-- Canonical forms of groups of two interned lists are equal exactly where the groups are. Where
-- they decide which types have one index, the indices distinguish the types.
use Rattle.std.proofs.Common.{◌≡◌, ◌∙◌, ◌↔◌, ℕ, zero, suc, ◌<◌, ◌≤◌, Bool, true, false, nat_lt, List, [], ◌∷◌, length, get_or, refl, sym, arith, ◌-◌, ap}
use Rattle.std.proofs.lemmas.Bool.{ltb-true, ltb-false, lt-ltb, le-ltb}
use Rattle.type_spec.specs.Equality.{SameGroup, SameType, Home, home}
use Rattle.type_spec.specs.Interned.{GroupSpan, Built}
use Rattle.type_spec.proofs.Equivalence.{groups-type, type-groups}
use Rattle.wasm_index.specs.Index.{index_of}
use Rattle.wasm_types.specs.declared.sub.WasmRecGroup.{WasmRecGroup}
use Rattle.module_types.specs.Orderly.{LieBetween}
use Rattle.module_types.specs.Conversion.{no_span}
use Rattle.module_types.specs.ListGroups.{span_at, list_groups, IsWellNamed, EngineMap, TellTypes, TellTypesBefore, OneIndex, AreCompared, unkinded, types_in, group_at, kind_in, IsCompared}
use Rattle.std.specs.Prelude.{if◌then◌else◌}
use Rattle.wasm_spec.specs.TypeData.{map_group}
use Rattle.type_spec.specs.TypeShapes.{group_shape}
use Rattle.type_spec.specs.Names.{named}
use Rattle.type_spec.proofs.Homes.{size, home-again}
use Rattle.type_spec.proofs.ByNames.{name_by, by_names, same-kind}
use Rattle.wasm_types.specs.declared.index.EngineOrModuleTypeIndex.{EngineOrModuleTypeIndex}
use Rattle.wasm_types.specs.declared.index.EngineOrModuleTypeIndex.TheVariants.{Engine, RecGroup}
use Rattle.wasm_types.specs.TypeViews.{group_of}
use Rattle.wasm_types.specs.ViewsTell.{tells as tells_views, group_back}
use Rattle.wasm_trace.specs.Canonical.{consed_edge}
use Rattle.module_types.specs.Views.{index_at}
use Rattle.module_types.proofs.Telling.{Tells, told}
use Rattle.module_types.proofs.Standing.{list-size, list-kind, stands-at, span-long, span-named}

-- what becomes of a reference from a group that begins at an index
module _ (engine : EngineMap) (start r : ℕ) where
  abbrev by_side : Bool → EngineOrModuleTypeIndex
  by_side c = if c then Engine (engine (index_of r)) else RecGroup (index_of (r - start))

  given-inside : start ≤ r → consed_edge engine start (index_at r) ≡ RecGroup (index_of (r - start))
  given-inside low = ap by_side (le-ltb r start low)

  given-outside : r < start → consed_edge engine start (index_at r) ≡ Engine (engine (index_of r))
  given-outside low = ap by_side (lt-ltb r start low)

-- a group of a list, and the references in it
module _ (b : Built) (w : IsWellNamed b) (k : ℕ) (lt : k < length b.groups) where
  abbrev InSpan : ℕ → Type 0
  InSpan r = r < (span_at b k).end

  in-list : (r : ℕ) → InSpan r → r < length b.types
  in-list r p = let s = stands-at b w k lt in omega (arith, s.high, p)

  in-size : (r : ℕ) → InSpan r → r < size (list_groups b)
  in-size r p = omega (arith, in-list r p, list-size b w)

  pub span-home : (r : ℕ) → (span_at b k).start ≤ r → InSpan r → home (list_groups b) r ≡ group_at b k
  span-home r low p =
      let s = stands-at b w k lt in
      let from = ap (λ (g : Home). g.start) s.at in
      let members = ap (λ (g : Home). length g.members) s.at in
      home-again (list_groups b) (span_at b k).start r (in-size (span_at b k).start s.some)
      (record { from = omega (arith, from, low); to = omega (arith, from, members, span-long b w k lt, low, p, s.some) }) ∙ s.at

  pub span-place : (r : ℕ) → (span_at b k).start ≤ r → InSpan r → r - (home (list_groups b) r).start ≡ r - (span_at b k).start
  span-place r low p = ap (λ (g : Home). r - g.start) (span-home r low p)

  -- what the group is rewritten to, by names
  rewritten : (engine : EngineMap) (old new : WasmRecGroup) → IsCompared b engine k old new
      → group_of new ≡ by_names (kind_in b.types) (λ i. consed_edge engine (span_at b k).start (index_at i)) (unkinded (types_in b.types
      (span_at b k)))
  rewritten engine old new is =
      let given = consed_edge engine (span_at b k).start in
      let kind = kind_in b.types in
      is.mapped ∙ ap (map_group (named given) given) (is.stands ∙ ap (map_group (named index_at) index_at) (sym (span-named b w (span_at b k))))
      ∙ ap (map_group (named given) given) (group_shape.map_twice (name_by kind (λ (r : ℕ). r)) (named index_at) (λ (r : ℕ). r) index_at (unkinded
      (types_in b.types (span_at b k))))
      ∙ group_shape.map_twice (λ i. named index_at (name_by kind (λ (r : ℕ). r) i)) (named given) index_at given (unkinded (types_in b.types
      (span_at b k)))

module _ (b b' : Built) (w : IsWellNamed b) (w' : IsWellNamed b') (engine engine' : EngineMap)
    (k l : ℕ) (lt : k < length b.groups) (lt' : l < length b'.groups)
    (before : TellTypesBefore b b' engine engine' (span_at b k).start (span_at b' l).start) where
  abbrev Same : ℕ → ℕ → Type 0
  Same i j = SameType (list_groups b) (list_groups b') i j

  abbrev start : ℕ
  start = (span_at b k).start

  abbrev start' : ℕ
  start' = (span_at b' l).start

  abbrev given : ℕ → EngineOrModuleTypeIndex
  given r = consed_edge engine start (index_at r)

  abbrev given' : ℕ → EngineOrModuleTypeIndex
  given' r = consed_edge engine' start' (index_at r)

  tells : Tells (list_groups b) (list_groups b') (group_at b k) (group_at b' l) (span_at b k).end (span_at b' l).end (kind_in b.types) (kind_in b'.types) given given'
  tells = record {
    near = (stands-at b w k lt).near;
    near' = (stands-at b' w' l lt').near;
    home_is = span-home b w k lt;
    home_is' = span-home b' w' l lt';
    inside = λ r s low p low' q.
        let one = given-inside engine start r low in
        let two = given-inside engine' start' s low' in
        ((λ e. let same : RecGroup (index_of (r - start)) ≡ RecGroup (index_of (s - start')) = sym one ∙ e ∙ two in grind (arith, same)), (λ e. one ∙ ap (λ n. RecGroup (index_of n)) e ∙ sym two));
    outside = λ r s low p low' q.
        let one = given-outside engine start r low in
        let two = given-outside engine' start' s low' in
        ((λ e. (before r s low low').0 (cc (one, e, two))), (λ same. one ∙ ap Engine ((before r s low low').1 same) ∙ sym two));
    apart = λ r s low p low' e. cc (given-inside engine start r low, e, given-outside engine' start' s low');
    apart' = λ r s low low' q e. cc (given-outside engine start r low, e, given-inside engine' start' s low');
    kinds = λ r s p q same.
        sym (list-kind b w r (in-list b w k lt r p))
        ∙ same-kind (list_groups b) (list_groups b') r s (in-size b w k lt r p) (in-size b' w' l lt' s q) same
        ∙ list-kind b' w' s (in-list b' w' l lt' s q);
  }

  pub compared : (x x' y y' : WasmRecGroup) → IsCompared b engine k x x' → IsCompared b' engine' l y y'
      → (x' ≡ y') ↔ SameGroup Same (group_at b k) (group_at b' l)
  compared x x' y y' is is' =
      let left = rewritten b w k lt engine x x' is in
      let right = rewritten b' w' l lt' engine' y y' is' in
      let groups = told (list_groups b) (list_groups b') (group_at b k) (group_at b' l) (span_at b k).end (span_at b' l).end (kind_in b.types) (kind_in b'.types)
      given given' tells in (
        (λ same. groups.0 (sym left ∙ ap group_of same ∙ right)),
        (λ same. tells_views group_back x' y' (left ∙ groups.1 same ∙ sym right)),
      )

-- what distinguishes all types distinguishes those before two groups
pub all-before : (b b' : Built) (w : IsWellNamed b) (w' : IsWellNamed b') (engine engine' : EngineMap) → TellTypes b b' engine engine'
    → (k l : ℕ) → k < length b.groups → l < length b'.groups → TellTypesBefore b b' engine engine' (span_at b k).start (span_at b' l).start
all-before b b' w w' engine engine' told k l lt lt' i j before before' =
    let s = stands-at b w k lt in
    let s' = stands-at b' w' l lt' in
    told i j (omega (arith, s.high, s.some, before)) (omega (arith, s'.high, s'.some, before'))

-- the group that has the type at an index
pub record Has (ss : List GroupSpan) (i : ℕ) : Type 0 where
  pub number : ℕ
  pub within : number < length ss
  pub low : (get_or ss number no_span).start ≤ i
  pub high : i < (get_or ss number no_span).end

find : (ss : List GroupSpan) (first end i : ℕ) → LieBetween first ss end → first ≤ i → i < end → Has ss i
find [] first end i lie low high = absurd (omega (arith, lie, low, high))
find (s ∷ ss) first end i lie low high = by (nat_lt i s.end) refl (λ behind. find ss s.end end i lie.2 behind high) where
  by : (c : Bool) → nat_lt i s.end ≡ c → (s.end ≤ i → Has ss i) → Has (s ∷ ss) i
  by true e rest = record { number = 0; within = omega arith; low = omega (arith, lie.0, low); high = ltb-true i s.end e }
  by false e rest =
      let h = rest (ltb-false i s.end e) in
      record { number = suc h.number; within = omega (arith, h.within); low = h.low; high = h.high }

module _ (b b' : Built) (w : IsWellNamed b) (w' : IsWellNamed b') (engine engine' : EngineMap) (olds forms olds' forms' : ℕ → WasmRecGroup)
    (are : AreCompared b engine olds forms) (are' : AreCompared b' engine' olds' forms') (one : OneIndex b b' engine engine' forms forms') where
  abbrev TellsAt : ℕ → ℕ → Type 0
  TellsAt i j = (engine (index_of i) ≡ engine' (index_of j)) ↔ SameType (list_groups b) (list_groups b') i j

  -- types of two groups, where all before the two are distinguished
  tell-in : (i j k l : ℕ) → k < length b.groups → l < length b'.groups
      → (span_at b k).start ≤ i → i < (span_at b k).end → (span_at b' l).start ≤ j → j < (span_at b' l).end
      → TellTypesBefore b b' engine engine' (span_at b k).start (span_at b' l).start → TellsAt i j
  tell-in i j k l lt lt' low high low' high' told =
      let at = one k l i j lt lt' low high low' high' in
      let groups = compared b b' w w' engine engine' k l lt lt' told (olds k) (forms k) (olds' l) (forms' l) (are k lt) (are' l lt') in
      let Same : ℕ → ℕ → Type 0 = λ r s. SameType (list_groups b) (list_groups b') r s in (
        (λ e.
            let both = at.0 e in
            groups-type (list_groups b) (list_groups b') i j
            (span-place b w k lt i low high ∙ both.0 ∙ sym (span-place b' w' l lt' j low' high'))
            (coe 0 1 (t. SameGroup Same (sym (span-home b w k lt i low high) t) (sym (span-home b' w' l lt' j low' high') t)) (groups.0 both.1))),
        (λ same. at.1 (
          sym (span-place b w k lt i low high) ∙ same.0 ∙ span-place b' w' l lt' j low' high',
          groups.1 (coe 0 1 (t. SameGroup Same (span-home b w k lt i low high t) (span-home b' w' l lt' j low' high' t))
              (type-groups (list_groups b) (list_groups b') i j same)),
        )),
      )

  tell : (n i : ℕ) → i < n → i < length b.types → (j : ℕ) → j < length b'.types → TellsAt i j
  tell zero i h lt j lt' = absurd (omega (arith, h))
  tell (suc n) i h lt j lt' =
      let k = find b.groups 0 (length b.types) i w.orderly (omega arith) lt in
      let l = find b'.groups 0 (length b'.types) j w'.orderly (omega arith) lt' in
      tell-in i j k.number l.number k.within l.within k.low k.high l.low l.high
      (λ r s before before'. tell n r (omega (arith, before, k.low, h)) (omega (arith, before, k.low, lt)) s (omega (arith, before', l.low, lt')))

  pub told-by-forms : TellTypes b b' engine engine'
  told-by-forms i j lt lt' = tell (suc i) i (omega arith) lt j lt'
