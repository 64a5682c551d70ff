-- The interned list of a module is well named, and so it was before trampolines, exception types
-- and the startup type.
use Rattle.std.proofs.Common.{◌≡◌, ◌∙◌, ◌<◌, ◌≤◌, inl, inr, ℕ, zero, suc, ◌+◌, Bool, true, false, None, List, [], ◌∷◌, ◌++◌, length, get_or, refl, sym, ap, subst, arith, length-append, Option, map}
use Rattle.std.specs.List.{All, flat_map}
use Rattle.std.specs.Prelude.{◌⊎◌}
use Rattle.std.proofs.lemmas.Bool.{cases_lt, false≢true}
use Rattle.std.proofs.lemmas.List.{length-map, length_push, get_or_past}
use Rattle.std.proofs.lemmas.List.Elements.{All-nil, All-map, All-weaker, All-cons, All-append}
use Rattle.wasm_spec.specs.TypeData.{Struct, SubType, Group, map_sub_type, map_group, group_edges, ValueType, Composite, Func, Exn, map_value, map_field, map_composite, value_edges, field_edges, composite_edges, sub_type_edges}
use Rattle.type_spec.specs.Shapes.{erased}
use Rattle.type_spec.specs.TypeShapes.{group_shape}
use Rattle.type_spec.specs.Names.{NameKind, plainly, Named, index_of}
use Rattle.type_spec.specs.Equality.{Home}
use Rattle.type_spec.specs.Interned.{Interned, Built, empty, with_group, plain, exception_for, composite_at, startup_type, kind_of_type, kind_at, taken, interned, Called, passed, mapped, opened, field_for, with_exception, with_startup}
use Rattle.type_spec.specs.TakenGroups.{taken_groups}
use Rattle.type_spec.specs.Taken.{NameEarlier}
use Rattle.type_spec.proofs.Homes.{size}
use Rattle.type_spec.proofs.ByNames.{name_by, by_names, names-same, names-plain, zip-known-itself, home-kind, same-kind}
use Rattle.module_types.specs.ListGroups.{unkinded, kind_in, IsWellNamed}
use Rattle.module_types.proofs.Taking.{IsMet, Covers, form, Next, Stand, IsExactBelow, with_forms, next-copy, number_in, whole}
use Rattle.module_types.proofs.EqualLists.{next-home, next-place, next-number}
use Rattle.module_types.proofs.GroupMembers.{composite-behind, extends-group, trampoline_next, all-steps, through-interned}
use Rattle.module_types.proofs.WellNamed.{AllBelow, Well, kind-before, well-next, named-before}
use Rattle.std.specs.Option.{option_to_list}
use Rattle.form_types.proofs.AllOf.{All-joined}

-- ---- a mapped type names nothing

values-nothing : (vs : List (ValueType (Named ℕ))) → flat_map (value_edges (λ (r : ℕ). r)) (map (map_value (index_of {R = ℕ})) (map passed vs)) ≡ []
values-nothing [] = refl
values-nothing (v ∷ vs) = grind (arith, (values-nothing vs))

mapped-nothing : (f : Called) → group_edges (λ r. r) (unkinded (plain (Func (mapped f)) ∷ [])) ≡ []
mapped-nothing f = λ i. (values-nothing f.params i ++ values-nothing f.results i) ++ []

module _ (kind : ℕ → NameKind) where
  values-named : (vs : List (ValueType (Named ℕ)))
      → map (map_value (name_by kind (λ (r : ℕ). r))) (map (map_value (index_of {R = ℕ})) (map passed vs)) ≡ map passed vs
  values-named [] = refl
  values-named (v ∷ vs) = grind (arith, (values-named vs))

  mapped-named : (f : Called) → by_names kind (λ r. r) (unkinded (plain (Func (mapped f)) ∷ [])) ≡ plain (Func (mapped f)) ∷ []
  mapped-named f = λ i. plain (Func (record { params = values-named f.params i; results = values-named f.results i })) ∷ []

-- ---- trampolines

abbrev KeepsNames : Built → Built → Type 0
KeepsNames b c = Well b.types b.groups → Well c.types c.groups

names-next : (b : Built) (known : Called → Option ℕ) (i : ℕ) (f : Called) → KeepsNames b (trampoline_next b known i f)
names-next b known i f w =
    let t = plain (Func (mapped f)) in
    well-next b.types (t ∷ []) b.groups w (omega arith)
    (subst (λ rs. All (λ r. r < length b.types + 1) rs) (sym (mapped-nothing f)) (All-nil (λ r. r < length b.types + 1)))
    (mapped-named (kind_in (b.types ++ t ∷ [])) f)

-- a group, and then the trampolines that are missing
pub well-group : (b : Built) (ts : List Interned) → 0 < length ts → Well b.types b.groups → AllBelow (length b.types + length ts) (unkinded ts)
    → by_names (kind_in (b.types ++ ts)) (λ r. r) (unkinded ts) ≡ ts → Well (with_group b ts).types (with_group b ts).groups
well-group b ts some w below kinds =
    all-steps KeepsNames (λ b w. w) (λ b known i k w. w) names-next (λ b c d x y w. y (x w)) (opened b ts) (length b.types) ts
    (well-next b.types ts b.groups w some below kinds)

-- ---- exception types

module _ (index : ℕ → Named ℕ) where
  composite-named : (ts : List Interned) (i : ℕ) → composite_at (map_group index (λ r. r) (unkinded ts)) i
      ≡ map_composite index (λ r. r) (map_composite (index_of {R = ℕ}) (λ r. r) (composite_at ts i))
  composite-named (t ∷ ts) (suc i) = composite-named ts i
  composite-named _ _ = refl

  -- the parameters of the function type at an index
  params-at : (ts : List Interned) (i : ℕ) (f : Called) → map_group index (λ r. r) (unkinded ts) ≡ ts → composite_at ts i ≡ Func f
      → map (map_value index) (map (map_value (index_of {R = ℕ})) f.params) ≡ f.params
  params-at ts i f same at = grind (arith, whole, composite-named)

  fields-named : (vs : List (ValueType (Named ℕ))) → map (map_field index) (map (map_field (index_of {R = ℕ})) (map field_for vs))
      ≡ map field_for (map (map_value index) (map (map_value (index_of {R = ℕ})) vs))
  fields-named [] = refl
  fields-named (v ∷ vs) = λ i. field_for (map_value index (map_value (index_of {R = ℕ}) v)) ∷ fields-named vs i

fields-edges : (vs : List (ValueType (Named ℕ))) → flat_map (field_edges (λ (r : ℕ). r)) (map (map_field (index_of {R = ℕ})) (map field_for vs))
    ≡ flat_map (value_edges (λ (r : ℕ). r)) (map (map_value (index_of {R = ℕ})) vs)
fields-edges [] = refl
fields-edges (v ∷ vs) = λ i. value_edges (λ r. r) (map_value (index_of {R = ℕ}) v) ++ fields-edges vs i

module _ (P : ℕ → Type 0) where
  params-below : (ts : List Interned) (i : ℕ) (f : Called) → All P (group_edges (λ r. r) (unkinded ts)) → composite_at ts i ≡ Func f
      → All P (flat_map (value_edges (λ (r : ℕ). r)) (map (map_value (index_of {R = ℕ})) f.params))
  params-below [] i f all at = let no : Struct [] ≡ Func f = at in cc
  params-below (t ∷ ts) zero f all at =
      let u = map_sub_type (index_of {R = ℕ}) (λ r. r) t in
      let here = ((All-joined P (sub_type_edges (λ r. r) u) (group_edges (λ r. r) (unkinded ts))).0 all).0 in
      let inner = ((All-joined P (option_to_list u.supertype) (composite_edges (λ r. r) u.composite.inner)).0 here).1 in
      let function = subst (λ c. All P (composite_edges (λ r. r) (map_composite (index_of {R = ℕ}) (λ r. r) c))) at inner in
      ((All-joined P (flat_map (value_edges (λ r. r)) (map (map_value (index_of {R = ℕ})) f.params)) (flat_map (value_edges (λ r. r)) (map
      (map_value (index_of {R = ℕ})) f.results))).0 function).0
  params-below (t ∷ ts) (suc i) f all at =
      params-below ts i f ((All-joined P (sub_type_edges (λ r. r) (map_sub_type (index_of {R = ℕ}) (λ r. r) t)) (group_edges (λ r. r)
      (unkinded ts))).0 all).1 at

module _ (b : Built) (i : ℕ) (le : i ≤ length b.types) where
  abbrev exception : Composite (Named ℕ) ℕ → Interned
  exception c = plain (exception_for i c)

  abbrev Low : ℕ → Type 0
  Low r = r < length b.types + 1

  exception-below : (c : Composite (Named ℕ) ℕ) → composite_at b.types i ≡ c → Well b.types b.groups
      → AllBelow (length b.types + 1) (unkinded (exception c ∷ []))
  exception-below (Func f) at w =
      let params = params-below (λ r. r < length b.types) b.types i f w.below at in
      let low = All-weaker (λ r. r < length b.types) Low (λ r lt. omega (arith, lt)) _ params in
      let edges = flat_map (field_edges (λ (r : ℕ). r)) (map (map_field (index_of {R = ℕ})) (map field_for f.params)) in
      All-append Low (i ∷ edges) [] (All-cons Low i edges (omega (arith, le)) (subst (All Low) (sym (fields-edges f.params)) low)) (All-nil Low)
  exception-below c at w = All-cons Low i [] (omega (arith, le)) (All-nil Low)

  exception-named : (c : Composite (Named ℕ) ℕ) → composite_at b.types i ≡ c → Well b.types b.groups
      → by_names (kind_in (b.types ++ exception c ∷ [])) (λ r. r) (unkinded (exception c ∷ [])) ≡ exception c ∷ []
  exception-named (Func f) at w =
      let us = exception (Func f) ∷ [] in
      let index = name_by (kind_in (b.types ++ us)) (λ (r : ℕ). r) in
      let params = params-at index b.types i f (named-before b.types us (unkinded b.types) w.below ∙ w.kinds) at in
      λ j. plain (Exn (record { function = i; fields = (fields-named index f.params ∙ ap (map field_for) params) j })) ∷ []
  exception-named c at w = refl

  pub well-exception : Well b.types b.groups → Well (with_exception b i).types (with_exception b i).groups
  well-exception w =
      let c = composite_at b.types i in
      well-next b.types (exception c ∷ []) b.groups w (omega arith) (exception-below c refl w) (exception-named c refl w)

pub well-startup : (b : Built) → Well b.types b.groups → Well (with_startup b true).types (with_startup b true).groups
well-startup b w = well-next b.types (startup_type ∷ []) b.groups w (omega arith) (All-nil (λ r. r < length b.types + 1)) refl

-- ---- the list of a module

abbrev some_member : SubType (Unit {0}) (Unit {0})
some_member = record { is_final = true; supertype = None; composite = record { inner = Struct []; shared = false } }

module _ (kind : ℕ → NameKind) (number : ℕ → ℕ) where
  member-named : (g : Group ℕ ℕ) (p : ℕ) → p < length g
      → kind_in (by_names kind number g) p ≡ kind_of_type (get_or (map_group (erased {R = ℕ}) (erased {R = ℕ}) g) p some_member).composite.inner
  member-named [] p lt = absurd (omega arith)
  member-named (t ∷ ts) zero lt = grind arith
  member-named (t ∷ ts) (suc p) lt = member-named ts p (omega arith)

module _ (all : List (Group ℕ ℕ)) (number : ℕ → ℕ) (exact : IsExactBelow all number (size all)) where
  -- the index of a type is one at which there is a type of its kind
  pub record IsThere (b : Built) (i : ℕ) : Type 0 where
    pub lt : number i < length b.types
    pub kind : kind_in b.types (number i) ≡ kind_at all i

  module _ (b : Built) (h : Home) (x : Next all number b h) where
    abbrev next : List Interned
    next = form all number h

    -- a member of the group, by its position in the list
    member-kind : (r : ℕ) → h.start ≤ r → r < h.start + length h.members → kind_in (b.types ++ next) (number r) ≡ kind_at all r
    member-kind r low high =
        grind (arith, next-home all number b h x r low high, next-place all number b h x r low high, next-number all number b h x r low high, composite-behind, member-named, home-kind)

    module _ (there : (i : ℕ) → i < size all → i < h.start → IsThere b i) where
      reference-below : (r : ℕ) → r < h.start + length h.members → number r < length b.types + length next
      reference-below r lt =
          elim (cases_lt r h.start) [
            | inl old ↦ let before = x.below r old in omega (arith, before)
            | inr low ↦ grind (arith, next-number all number b h x r low lt, low, lt, length-map, name_by)
          ]

      next-below : AllBelow (length b.types + length next) (unkinded next)
      next-below =
          subst (AllBelow (length b.types + length next)) (sym (names-plain (kind_at all) number h.members))
          (subst (All (λ r. r < length b.types + length next)) (sym ((plainly group_shape).edges_map number h.members))
          (All-map (λ r. r < length b.types + length next) number (group_edges (λ r. r) h.members)
          (All-weaker (λ r. r < h.start + length h.members) (λ r. number r < length b.types + length next) reference-below _ x.near)))

      next-kinds : by_names (kind_in (b.types ++ next)) (λ r. r) (unkinded next) ≡ next
      next-kinds =
          let kind = kind_in (b.types ++ next) in
          ap (by_names kind (λ r. r)) (names-plain (kind_at all) number h.members)
          ∙ group_shape.map_twice number (name_by kind (λ r. r)) number (λ r. r) h.members
          ∙ names-same (λ r. kind (number r)) (kind_at all) number number h.members h.members (record {
            frames = refl;
            edges = zip-known-itself (λ r. r < h.start + length h.members) _ (λ r lt. grind (arith, cases_lt, kind-before, member-kind))
                (group_edges (λ r. r) h.members) x.near;
          })

      module _ (done : List Home) (found : (i : ℕ) → i < size all → IsMet all done i → IsThere b i) where
        there-more : (i : ℕ) → i < size all → IsMet all (done ++ h ∷ []) i → IsThere (with_group b next) i
        there-more i lt met =
            let s = extends-group b next in
            let whole = ap length s.types ∙ length-append (b.types ++ next) s.types_more in
            elim (next-copy all number b h x done i lt met) [
              | inr c ↦ grind (arith, size, length-map, name_by, length-append, whole, kind-before, member-kind, same-kind)
              | inl old ↦ grind (arith, length-append, whole, kind-before)
            ]

  well-forms : (hs : List Home) (b : Built) (done : List Home) → Stand all number b hs → Covers all done hs
      → ((i : ℕ) → i < size all → IsMet all done i → IsThere b i) → Well b.types b.groups
      → Well (with_forms all number b hs).types (with_forms all number b hs).groups
  well-forms [] b done x covers found w = w
  well-forms (h ∷ hs) b done x covers found w =
      let there : (i : ℕ) → i < size all → i < h.start → IsThere b i = λ i lt before. found i lt (covers.0 i before) in
      well-forms hs (with_group b (form all number h)) (done ++ h ∷ []) x.1 covers.1 (there-more b h x.0 there done found)
      (well-group b (form all number h) (grind (arith, x.0.some, length-map, name_by)) w (next-below b h x.0 there) (next-kinds b h x.0 there))

pub well-empty : Well [] []
well-empty = record { orderly = refl; earlier = tt; below = All-nil (λ r. r < 0); kinds = refl }

pub well-named : (ms : List (Group ℕ ℕ)) → NameEarlier 0 ms → (tags : List ℕ) (startup : Bool) → IsWellNamed (interned ms tags startup)
well-named ms near tags startup =
    let w = whole ms near in
    let first = well-forms ms (number_in ms) w.exact (taken_groups ms) empty [] w.groups.stand w.groups.covers (λ i lt none. absurd (false≢true none)) well-empty in
    let built : Well (taken ms).built.types (taken ms).built.groups = coe 0 1 (t. Well (sym w.groups.built t).types (sym w.groups.built t).groups) first in
    let n = length (taken ms).built.types in
    let end = through-interned (λ b. Well b.types b.groups × (n ≤ length b.types)) (λ i. i ≤ n)
    (λ b i le p. (well-exception b i (omega (arith, le, p.1)) p.0, omega (arith, p.1, length_push b.types (plain (exception_for i (composite_at b.types i))))))
    (λ b p. (well-startup b p.0, omega (arith, p.1, length_push b.types startup_type))) ms tags startup (λ i. low i (cases_lt i (size ms))) (built, omega arith) in
    record { orderly = end.0.orderly; earlier = end.0.earlier; kinds = end.0.kinds } where
      low : (i : ℕ) → (i < size ms) ⊎ (size ms ≤ i) → number_in ms i ≤ length (taken ms).built.types
      low i (inl lt) = let below = (whole ms near).below i lt in omega (arith, below)
      low i (inr past) = grind (arith, number_in ms i, get_or_past (taken ms).declared i 0 (omega (arith, past, (whole ms near).counted)), whole ms near)
