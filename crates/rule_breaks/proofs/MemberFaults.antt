-- Faults of declared types, in the words of the definition.
use Rattle.std.proofs.Common.{◌≡◌, ◌⊎◌, ℕ, ◌+◌, ◌-◌, ◌<◌, ◌≤◌, zero, suc, Bool, true, false, List, [], ◌∷◌, ◌++◌, length, Option, Some, None, All, Contains, refl, sym, ap, subst, ◌∙◌, arith, inl, inr}
use Rattle.std.specs.Prelude.{IfSome, option_to_list, slice_get}
use Rattle.std.proofs.lemmas.List.{length-map}
use Rattle.std.proofs.lemmas.List.Elements.{All-head, Contains-append_left, Contains-append_right, Contains-push}
use Rattle.std.specs.Option.{option_map}
use Rattle.std.proofs.lemmas.Option.{slice_get_within, slice_get-map}
use Rattle.wasm_spec.specs.declared.types.UnpackedIndex.{UnpackedIndex}
use Rattle.wasm_spec.specs.declared.types.UnpackedIndex.TheVariants.{Module, RecGroup, Id}
use Rattle.wasm_spec.specs.TypeData.{Composite, Func, Array, Struct, Cont, Exn, SubType, Group, composite_edges, sub_type_edges}
use Rattle.wasm_spec.specs.Module as plain
use Rattle.rule_spec.specs.Lists.{Lists, Declared, declared_from, declared_groups, lists_of_module}
use Rattle.rule_spec.specs.TypeRules.{IsBelow, KindIsBelow, NamesFunctionType}
use Rattle.form_types.specs.Below.{NamesBelow}
use Rattle.form_reader.specs.declared.types.SubType as listed
use Rattle.form_reader.specs.declared.types.RecGroup as listed_group
use Rattle.form_reader.specs.Views.{sub_type_of, group_of}
use Rattle.rule_breaks.specs.declared.fault.IndexSpace.TheVariants as space
use Rattle.rule_breaks.specs.declared.fault.RuleFault.{RuleFault}
use Rattle.rule_breaks.specs.declared.fault.RuleFault.TheVariants as fault
use Rattle.rule_breaks.specs.TypeFlags.{function_flags}
use Rattle.rule_breaks.specs.Faults.{IsDeclaredFault}
use Rattle.rule_breaks.specs.Past.{IsNoEarlier, IsContinuationFault, IsKindFault, IsMemberFault}
use Rattle.rule_breaks.proofs.Searching.{inside}
use Rattle.rule_breaks.proofs.DeclaredWell.{flagged, flags-declared}

-- indices that are all below their bounds
pub names_well : (d : Declared) → All (IsBelow d.group_end) (composite_edges (λ i. i) d.type.composite.inner)
    → All (IsBelow d.index) (option_to_list d.type.supertype) → NamesBelow d
unfolding KindIsBelow
names_well d named supertype = record { indices = named; supertype = above d.type.supertype supertype } where
  above : (o : Option UnpackedIndex) → All (IsBelow d.index) (option_to_list o) → IfSome o (IsBelow d.index)
  above None all = tt
  above (Some i) all = All-head (IsBelow d.index) i [] all

-- the type index of a fault
bound-fault : (l : Lists) (d : Declared) (bound : ℕ) (i : UnpackedIndex) (f : RuleFault)
    → ((Contains (composite_edges (λ j. j) d.type.composite.inner) i × (bound ≡ d.group_end)) ⊎ ((d.type.supertype ≡ Some i) × (bound ≡ d.index)))
    → Contains (sub_type_edges (λ j. j) d.type) i → IsNoEarlier bound i f → IsDeclaredFault l d f
bound-fault l d bound (Module k) (fault.NoEarlierType index end) where_from has is = (
  is.2,
  elim where_from [
    | inl kind ↦ inl (subst (λ n. Contains (composite_edges (λ j. j) d.type.composite.inner) (Module n)) (sym is.0) kind.0, is.1 ∙ kind.1)
    | inr above ↦ inr (above.0 ∙ ap (λ n. Some (Module n)) (sym is.0), is.1 ∙ above.1)
  ],
)
bound-fault l d bound (Module k) f where_from has is = absurd is
bound-fault l d bound (RecGroup k) fault.ForeignIndex where_from has is = (RecGroup k, has, tt)
bound-fault l d bound (RecGroup k) f where_from has is = absurd is
bound-fault l d bound (Id k) fault.ForeignIndex where_from has is = (Id k, has, tt)
bound-fault l d bound (Id k) f where_from has is = absurd is

module _ (m : plain.Module) (flags : List Bool) (are : flags ≡ function_flags (plain.groups m)) where
  abbrev pub l : Lists
  l = lists_of_module m

  as_many : length flags ≡ length l.types
  as_many = ap length (are ∙ sym (flags-declared (plain.groups m))) ∙ length-map (declared_groups 0 (plain.groups m)) _

  continuation : (d : Declared) (i : UnpackedIndex) (f : RuleFault) → d.type.composite.inner ≡ Cont i → Contains (sub_type_edges (λ j. j) d.type) i
      → IsContinuationFault flags i f → IsDeclaredFault l d f
  continuation d (Module k) (fault.NotAFunctionType index) is has found = (
    is ∙ ap (λ n. Cont (Module n)) (sym found.0),
    omega (arith, found.0, as_many, slice_get_within flags k false found.1),
    λ named. let e : Some false ≡ Some true = sym found.1 ∙ (flagged m flags are k).1 (subst (NamesFunctionType l) found.0 named) in absurd cc,
  )
  continuation d (Module k) (fault.NoSuchEntry space.Types index count) is has found = (Module k, has, (found.0, found.1 ∙ as_many, found.2))
  continuation d (Module k) f is has found = absurd found
  continuation d (RecGroup k) fault.ForeignIndex is has found = (RecGroup k, has, tt)
  continuation d (RecGroup k) f is has found = absurd found
  continuation d (Id k) fault.ForeignIndex is has found = (Id k, has, tt)
  continuation d (Id k) f is has found = absurd found

  kind-fault : (d : Declared) (k : Composite UnpackedIndex UnpackedIndex) (f : RuleFault) → d.type.composite.inner ≡ k → IsKindFault flags k f
      → IsDeclaredFault l d f
  kind-fault d (Cont i) f is found =
      continuation d i f is
      (Contains-append_right (option_to_list d.type.supertype) (composite_edges (λ j. j) d.type.composite.inner) i
      (subst (λ k. Contains (composite_edges (λ j. j) k) i) (sym is) (Contains-push [] i))) found
  kind-fault d (Func t) f is found = absurd found
  kind-fault d (Array t) f is found = absurd found
  kind-fault d (Struct t) f is found = absurd found
  kind-fault d (Exn t) f is found = absurd found

  pub member_declared : (d : Declared) (f : RuleFault) → IsMemberFault flags d f → IsDeclaredFault l d f
  member_declared d f found = elim found [
    | inl kind ↦ bound-fault l d d.group_end kind.0 f (inl (kind.1, refl))
        (Contains-append_right (option_to_list d.type.supertype) (composite_edges (λ j. j) d.type.composite.inner) kind.0 kind.1) kind.2
    | inr other ↦ elim other [
      | inl above ↦ bound-fault l d d.index above.0 f (inr (above.1, refl))
          (Contains-append_left (option_to_list d.type.supertype) (composite_edges (λ j. j) d.type.composite.inner) above.0
          (subst (λ o. Contains (option_to_list o) above.0) (sym above.1) (Contains-push [] above.0))) above.2
      | inr continues ↦ kind-fault d d.type.composite.inner f refl continues
    ]
  ]

-- ---- the type that has an index

at-member : (end index : ℕ) (g : List (SubType UnpackedIndex UnpackedIndex)) (k : ℕ) (t : SubType UnpackedIndex UnpackedIndex) → slice_get g k ≡ Some t
    → slice_get (declared_from end index g) k ≡ Some (record { type = t; index = index + k; group_end = end })
at-member end index [] k t is = absurd cc
at-member end index (s ∷ g) zero t is =
    let e : s ≡ t = cc in
    let z : index ≡ index + 0 = omega arith in
    ap (λ x. Some (record { type = x; index = index; group_end = end })) e ∙ ap (λ n. Some (record { type = t; index = n; group_end = end })) z
at-member end index (s ∷ g) (suc k) t is =
    let z : index + 1 + k ≡ index + suc k = omega arith in
    at-member end (index + 1) g k t is ∙ ap (λ n. Some (record { type = t; index = n; group_end = end })) z

in-left : {X : Type 0} (xs ys : List X) (k : ℕ) (x : X) → slice_get xs k ≡ Some x → slice_get (xs ++ ys) k ≡ Some x
in-left [] ys k x is = absurd cc
in-left (z ∷ xs) ys zero x is = is
in-left (z ∷ xs) ys (suc k) x is = in-left xs ys k x is

in-right : {X : Type 0} (xs ys : List X) (k : ℕ) → slice_get (xs ++ ys) (length xs + k) ≡ slice_get ys k
in-right [] ys k = let e : 0 + k ≡ k = omega arith in ap (slice_get ys) e
in-right (z ∷ xs) ys k = let e : length (z ∷ xs) + k ≡ suc (length xs + k) = omega arith in ap (slice_get (z ∷ (xs ++ ys))) e ∙ in-right xs ys k

long : (end index : ℕ) (g : List (SubType UnpackedIndex UnpackedIndex)) → length (declared_from end index g) ≡ length g
long end index [] = refl
long end index (t ∷ ts) = omega (arith, long end (index + 1) ts)

-- the type that is looked for is among the groups that remain, the first of whose members has this index
pub record TypeRemains (all : List Declared) (left : List (Group UnpackedIndex UnpackedIndex)) (start entry : ℕ) : Type 0 where
  pub few : start ≤ entry
  pub same : slice_get all entry ≡ slice_get (declared_groups start left) (entry - start)

module _ (all : List Declared) (left rest : List (Group UnpackedIndex UnpackedIndex)) (g : Group UnpackedIndex UnpackedIndex) (start entry : ℕ)
    (remains : TypeRemains all left start entry) (at : left ≡ g ∷ rest) where
  -- it is a member of the first group
  pub type_reached : (t : SubType UnpackedIndex UnpackedIndex) → slice_get g (entry - start) ≡ Some t
      → slice_get all entry ≡ Some (record { type = t; index = entry; group_end = start + length g })
  type_reached t is =
      let z : start + (entry - start) ≡ entry = omega (arith, remains.few) in
      remains.same ∙ ap (λ gs. slice_get (declared_groups start gs) (entry - start)) at
      ∙ in-left (declared_from (start + length g) start g) (declared_groups (start + length g) rest) (entry - start) _ (at-member (start + length g) start g (entry - start) t is)
      ∙ ap (λ n. Some (record { type = t; index = n; group_end = start + length g })) z

  -- it is in a later group
  pub type_passed : (next : ℕ) → next ≡ start + length g → next ≤ entry → TypeRemains all rest next entry
  type_passed next is few =
      let z : entry - start ≡ length (declared_from (start + length g) start g) + (entry - next) = omega (arith, long (start + length g) start g, is, few) in
      record {
        few = few;
        same = remains.same ∙ ap (λ gs. slice_get (declared_groups start gs) (entry - start)) at
            ∙ ap (slice_get (declared_from (start + length g) start g ++ declared_groups (start + length g) rest)) z
            ∙ in-right (declared_from (start + length g) start g) (declared_groups (start + length g) rest) (entry - next)
            ∙ ap (λ n. slice_get (declared_groups n rest) (entry - next)) (sym is);
      }

module _ (all : List Declared) (left rest : List (Group UnpackedIndex UnpackedIndex)) (g : listed_group.RecGroup) (ts : List listed.SubType) (start entry : ℕ)
    (remains : TypeRemains all left start entry) (at : left ≡ group_of g ∷ rest) (are : ts ≡ g.types.items) where
  as_long : length (group_of g) ≡ length ts
  as_long = length-map g.types.items sub_type_of ∙ sym (ap length are)

  -- the same of members that are listed
  pub listed_reached : (t : listed.SubType) → slice_get ts (entry - start) ≡ Some t
      → slice_get all entry ≡ Some (record { type = sub_type_of t; index = entry; group_end = start + length ts })
  listed_reached t is =
      type_reached all left rest (group_of g) start entry remains at (sub_type_of t)
      (slice_get-map sub_type_of g.types.items (entry - start) ∙ ap (option_map sub_type_of) (sym (ap (λ us. slice_get us (entry - start)) are) ∙ is))
      ∙ ap (λ n. Some (record { type = sub_type_of t; index = entry; group_end = start + n })) as_long

  pub listed_passed : slice_get ts (entry - start) ≡ None → TypeRemains all rest (start + length ts) entry
  listed_passed none =
      let past : ¬ (entry - start < length ts) = λ lt. inside ts (entry - start) lt none in
      type_passed all left rest (group_of g) start entry remains at (start + length ts) (omega (arith, as_long)) (omega (arith, remains.few, past))
