-- The groups of a module are numbered one by one.
use Rattle.std.proofs.Common.{◌≡◌, ◌∙◌, ℕ, ◌+◌, ◌^◌, ◌<◌, List, [], ◌∷◌, ◌++◌, length, get_or, map, cond, Option, Some, None, refl, sym, ap, subst, arith, length-append}
use Rattle.std.specs.Prelude.{slice_index}
use Rattle.std.specs.List.{range_with_len}
use Rattle.std.proofs.lemmas.List.{length-map, map-append, get_or_append_left, get_or-append-add}
use Rattle.std.proofs.lemmas.List.FromFn.{get_or-range_with_len, length-range_with_len}
use Rattle.wasm_spec.specs.TypeData.{Group, map_group}
use Rattle.type_spec.specs.TypeShapes.{group_shape}
use Rattle.type_spec.specs.Names.{plainly}
use Rattle.type_spec.specs.Equality.{canonical}
use Rattle.type_spec.proofs.Homes.{size, size-more}
use Rattle.form_reader.specs.Views.{group_of}
use Rattle.form_types.specs.declared.numbering.Numbering.{Numbering}
use Rattle.form_types.specs.declared.canonical.CanonicalGroup.{CanonicalGroup}
use Rattle.form_types.specs.contracts.canonical.CanonicalGroupPartialEq.TheImpl as group
use Rattle.form_types.specs.Types.{NamedGroup, types_by_id}
use Rattle.form_types.specs.EarlierTypes.{ids_of}
use Rattle.form_types.specs.Placed.{place_of, placed, id_at, named_index}
use Rattle.form_types.specs.Keys.{group_key, key_of}
use Rattle.form_types.specs.Finding.{first_of}
use Rattle.form_types.specs.Distinct.{KeepsGroups}
use Rattle.form_types.specs.Adding.{HasFewIds, AddsMet, AddsNew, AddsBy, AddsGroup}
use Rattle.form_types.specs.Taken.{Canonical, NearIn, TellsAt, IsNumbered, places, FirstAreNumbered}
use Rattle.form_types.proofs.Steps.{found-low, numbered-empty, numbered-old, numbered-new}

-- some groups are numbered as they are listed
builds : (gs : List (Group ℕ ℕ)) (done : List NamedGroup) (n : Numbering) (keys : List Canonical) (groups : List NamedGroup) → places done ≡ gs
    → IsNumbered gs (slice_index (ids_of n.declared.items)) keys groups (first_of n.first_ids)
    → length (ids_of n.declared.items) ≡ size gs → KeepsGroups n.distinct groups → FirstAreNumbered done n
builds gs done n keys groups are st counted listed = record {
  keys = keys;
  numbered = coe 0 1 (t. IsNumbered (sym are t) (slice_index (ids_of n.declared.items)) keys (sym listed.groups_are t) (first_of n.first_ids)) st;
  counted = counted ∙ ap size (sym are);
  listed = subst (KeepsGroups n.distinct) (sym listed.groups_are) listed;
}

-- no group is numbered
pub record HasNone (n : Numbering) : Type 0 where
  pub ids : ids_of n.declared.items ≡ []
  pub listed : KeepsGroups n.distinct []
  pub met : (q : CanonicalGroup) → first_of n.first_ids q ≡ None

pub built-none : (n : Numbering) → HasNone n → FirstAreNumbered [] n
built-none n none = builds [] [] n [] [] refl (record {
  few = omega arith;
  listed = record { long = refl; are = λ k lt. absurd (omega arith); apart = λ i j d lt in'. absurd (omega arith); references = tt };
  tells = λ q. subst (TellsAt [] [] (key_of q)) (sym (none.met q)) (λ k lt. absurd (omega arith));
  stands = λ i h. absurd (omega arith);
  given = record { in_order = λ i id h lt. absurd (omega arith); nothing_else = λ id lt. absurd (omega arith) };
}) (ap length none.ids) none.listed

places-more : (done : List NamedGroup) (g : NamedGroup) → places (done ++ g ∷ []) ≡ places done ++ placed g ∷ []
places-more done g = map-append placed done (g ∷ [])

-- a group with no types changes nothing
pub built-empty : (done : List NamedGroup) (n : Numbering) (g : NamedGroup) → length g ≡ 0 → FirstAreNumbered done n → FirstAreNumbered (done ++ g ∷ []) n
built-empty done n g none b =
    let long : length (placed g) ≡ 0 = length-map g _ ∙ none in
    builds (places done ++ placed g ∷ []) (done ++ g ∷ []) n b.keys (map group_of n.distinct.groups.items) (places-more done g)
    (numbered-empty (places done) (slice_index (ids_of n.declared.items)) b.keys (map group_of n.distinct.groups.items) (first_of n.first_ids) b.numbered
    (placed g) (slice_index (ids_of n.declared.items)) (λ i h. refl) long)
    (omega (arith, b.counted, size-more (places done) (placed g), long)) b.listed

-- ---- a group with types

module _ (done : List NamedGroup) (n n' : Numbering) (g : NamedGroup) (b : FirstAreNumbered done n) (some : 0 < length g)
    (near : NearIn (record { start = size (places done); members = placed g })) (adds : AddsGroup n n' g) where
  abbrev gs : List (Group ℕ ℕ)
  gs = places done

  abbrev groups : List NamedGroup
  groups = map group_of n.distinct.groups.items

  abbrev ids : List ℕ
  ids = ids_of n.declared.items

  abbrev ids' : List ℕ
  ids' = ids_of n'.declared.items

  long : length (placed g) ≡ length g
  long = length-map g _

  is_key : key_of adds.key ≡ group_key (canonical (slice_index ids) (record { start = size gs; members = placed g }))
  is_key = adds.key_is ∙ ap (λ s. group_key (canonical (slice_index ids) (record { start = s; members = placed g }))) b.counted

  module _ (first : ℕ) (row : ids' ≡ ids ++ range_with_len first (length g)) where
    agree : (i : ℕ) → i < size gs → slice_index ids' i ≡ slice_index ids i
    agree i h = ap (λ l. get_or l i 0) row ∙ get_or_append_left ids (range_with_len first (length g)) 0 i (omega (arith, h, b.counted))

    fresh : (p : ℕ) → p < length (placed g) → slice_index ids' (size gs + p) ≡ first + p
    fresh p h =
        let e : size gs + p ≡ length ids + p = omega (arith, b.counted) in
        ap (λ i. get_or ids' i 0) e ∙ ap (λ l. get_or l (length ids + p) 0) row
        ∙ get_or-append-add ids (range_with_len first (length g)) p 0 ∙ get_or-range_with_len first (length g) p 0 (omega (arith, h, long))

    counts : length ids' ≡ size (gs ++ placed g ∷ [])
    counts =
        let sum = length-append ids (range_with_len first (length g)) in
        omega (arith, ap length row, sum, length-range_with_len first (length g), b.counted, size-more gs (placed g), long)

  built-met : (first : ℕ) → first_of n.first_ids adds.key ≡ Some first → AddsMet n n' g first → FirstAreNumbered (done ++ g ∷ []) n'
  built-met first found a =
      builds (gs ++ placed g ∷ []) (done ++ g ∷ []) n' b.keys groups (places-more done g)
      (numbered-old gs (slice_index ids) b.keys groups (first_of n.first_ids) b.numbered (placed g) (slice_index ids') (agree first a.ids)
      adds.key is_key near first found (fresh first a.ids) (first_of n'.first_ids) a.met)
      (counts first a.ids) a.listed

  built-new : first_of n.first_ids adds.key ≡ None → AddsNew n n' g adds.key → FirstAreNumbered (done ++ g ∷ []) n'
  built-new none a =
      let next = b.listed.next_is in
      let total = length (types_by_id groups) in
      let named = map_group (named_index ids') (named_index ids') g in
      let row : ids' ≡ ids ++ range_with_len total (length g) = a.ids ∙ ap (λ f. ids ++ range_with_len f (length g)) next in
      builds (gs ++ placed g ∷ []) (done ++ g ∷ []) n' _ (groups ++ named ∷ []) (places-more done g)
      (numbered-new gs (slice_index ids) b.keys groups (first_of n.first_ids) b.numbered (placed g) (slice_index ids') (agree total row)
      adds.key is_key near none (fresh total row) named (sym ((plainly group_shape).map_twice place_of (id_at ids') g)) (first_of n'.first_ids)
      (λ q. a.met q ∙ ap (λ f. cond (group.ghosts.eq adds.key q) (Some f) (first_of n.first_ids q)) next))
      (counts total row) a.listed

  pub built-more : FirstAreNumbered (done ++ g ∷ []) n'
  built-more = by (first_of n.first_ids adds.key) refl adds.adds where
    by : (o : Option ℕ) → first_of n.first_ids adds.key ≡ o → AddsBy n n' g adds.key o → FirstAreNumbered (done ++ g ∷ []) n'
    by (Some first) found a = built-met first found a
    by None none a = built-new none a

-- first ids are those of groups
pub few-ids : (done : List NamedGroup) (n : Numbering) → FirstAreNumbered done n → size (places done) < 2 ^ 30 → HasFewIds n.first_ids
few-ids done n b few = λ key first is. omega (arith, found-low b.numbered key first is, b.numbered.few, few)
