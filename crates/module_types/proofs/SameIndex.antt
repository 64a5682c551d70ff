-- Each declared type is equal to the interned type at its index.
use Rattle.std.proofs.Common.{◌≡◌, ◌∙◌, ◌<◌, ℕ, ◌+◌, ◌-◌, Bool, true, false, nat_le, List, [], ◌∷◌, ◌++◌, length, get_or, map, refl, sym, ap, subst, arith}
use Rattle.std.specs.List.{AllZip, All}
use Rattle.std.proofs.lemmas.Bool.{leb-true, leb-false, false≢true}
use Rattle.std.proofs.lemmas.List.{length-map}
use Rattle.std.proofs.lemmas.List.Elements.{All-head, All-tail}
use Rattle.wasm_spec.specs.TypeData.{Group, map_sub_type, map_group, group_edges}
use Rattle.type_spec.specs.Shapes.{erased}
use Rattle.type_spec.specs.TypeShapes.{group_shape}
use Rattle.type_spec.specs.Names.{plainly}
use Rattle.type_spec.specs.Equality.{Home, home, target, target_by, SameTarget, SameGroup, SameType}
use Rattle.type_spec.specs.Interned.{Interned, GroupSpan, Built, empty, with_group, next_span, opened, kind_at, taken, interned}
use Rattle.type_spec.specs.TakenGroups.{taken_groups}
use Rattle.type_spec.specs.Taken.{NameEarlier}
use Rattle.type_spec.proofs.Equivalence.{type-chained, groups-type}
use Rattle.type_spec.proofs.Homes.{size, home-again}
use Rattle.type_spec.proofs.ByNames.{name_by, names-plain}
use Rattle.module_types.specs.Conversion.{no_span}
use Rattle.module_types.specs.ListGroups.{list_groups, IsWellNamed}
use Rattle.module_types.proofs.GroupMembers.{Extends, extends-both, group-within, span-new, types-new, extends-group, extends-groups, extends-interned}
use Rattle.module_types.proofs.Taking.{IsMet, Covers, form, Next, Stand, IsExactBelow, with_forms, next-copy, number_in, whole}
use Rattle.module_types.proofs.EqualLists.{next-home, next-place, next-number}
use Rattle.module_types.proofs.NamedLists.{well-named}
use Rattle.module_types.proofs.Standing.{list-size, stands-at}

module _ (all : List (Group ℕ ℕ)) (number : ℕ → ℕ) (exact : IsExactBelow all number (size all)) (l : Built) (w : IsWellNamed l) where
  abbrev Same : ℕ → ℕ → Type 0
  Same i j = SameType all (list_groups l) i j

  module _ (b : Built) (h : Home) (x : Next all number b h) (behind : Extends (opened b (form all number h)) l) where
    abbrev next : List Interned
    next = form all number h

    abbrev first : ℕ
    first = length b.types

    abbrev span : GroupSpan
    span = next_span b (length next)

    long : length next ≡ length h.members
    long = length-map h.members (map_sub_type (name_by (kind_at all) number) number)

    within : length b.groups < length l.groups
    within = group-within b next l behind

    span-is : get_or l.groups (length b.groups) no_span ≡ span
    span-is = span-new b next l behind

    abbrev there : Home
    there = record { start = first; members = map_group number number h.members }

    home-member : (p : ℕ) → p < length h.members → home (list_groups l) (first + p) ≡ there
    home-member p lt =
        let at : home (list_groups l) first ≡ there = grind (arith, span-is, stands-at, within, types-new, names-plain) in
        grind (arith, at, length-map, home-again, stands-at l w (length b.groups) within, span-is, long, list-size l w)

    module _ (same : (i : ℕ) → i < size all → i < h.start → Same i (number i)) where
      target-there : (r : ℕ) → r < h.start + length h.members → (c d : Bool) → nat_le h.start r ≡ c → nat_le first (number r) ≡ d
          → SameTarget Same (target_by c (r - h.start) r) (target_by d (number r - first) (number r))
      target-there r lt true true e f = omega (arith, next-number all number b h x r (leb-true h.start r e) lt)
      target-there r lt true false e f = grind (arith, next-number all number b h x r (leb-true h.start r e) lt, leb-true h.start r e, leb-false first (number r) f)
      target-there r lt false true e f = absurd (omega (arith, x.below r (leb-false h.start r e), leb-true first (number r) f))
      target-there r lt false false e f = same r (omega (arith, lt, x.inside)) (leb-false h.start r e)

      zip-there : (rs : List ℕ) → All (λ r. r < h.start + length h.members) rs
          → AllZip (λ r s. SameTarget Same (target (λ i. i) h.start r) (target (λ i. i) first s)) rs (map number rs)
      zip-there [] near = tt
      zip-there (r ∷ rs) near = (
        target-there r (All-head (λ r. r < h.start + length h.members) r rs near) (nat_le h.start r) (nat_le first (number r)) refl refl,
        zip-there rs (All-tail (λ r. r < h.start + length h.members) r rs near),
      )

      group-there : SameGroup Same h there
      group-there = record {
        frames = sym ((plainly group_shape).map_twice number (erased {R = ℕ}) h.members);
        edges = subst (AllZip (λ r s. SameTarget Same (target (λ i. i) h.start r) (target (λ i. i) first s)) (group_edges (λ r. r) h.members))
            (sym ((plainly group_shape).edges_map number h.members)) (zip-there (group_edges (λ r. r) h.members) x.near);
      }

      member-there : (p : ℕ) → p < length h.members → Same (h.start + p) (first + p)
      member-there p lt =
          let left = next-home all number b h x (h.start + p) (omega arith) (omega (arith, lt)) in
          let place = next-place all number b h x (h.start + p) (omega arith) (omega (arith, lt)) in
          let right = home-member p lt in
          let place' : first + p - (home (list_groups l) (first + p)).start ≡ h.start + p - h.start =
          ap (λ (g : Home). first + p - g.start) right ∙ omega arith in
          groups-type all (list_groups l) (h.start + p) (first + p) (place ∙ sym place')
          (coe 0 1 (t. SameGroup Same (sym left t) (sym right t)) group-there)

      module _ (done : List Home) (found : (i : ℕ) → i < size all → IsMet all done i → Same i (number i)) where
        found-more : (i : ℕ) → i < size all → IsMet all (done ++ h ∷ []) i → Same i (number i)
        found-more i lt met = grind (arith, next-copy all number b h x done i lt met, type-chained, member-there)

  all-same : (hs : List Home) (b : Built) (done : List Home) → Stand all number b hs → Covers all done hs → Extends (with_forms all number b hs) l
      → ((i : ℕ) → i < size all → IsMet all done i → Same i (number i)) → (i : ℕ) → i < size all → Same i (number i)
  all-same [] b done x covers behind found i lt = found i lt (covers i lt)
  all-same (h ∷ hs) b done x covers behind found i lt =
      let ts = form all number h in
      let ext = extends-both (opened b ts) (with_group b ts) l (extends-group b ts)
      (extends-both (with_group b ts) (with_forms all number (with_group b ts) hs) l (extends-groups (with_group b ts) (map (form all number) hs)) behind) in
      all-same hs (with_group b ts) (done ++ h ∷ []) x.1 covers.1 behind
      (found-more b h x.0 ext (λ j below before. found j below (covers.0 j before)) done found) i lt

pub same-index : (ms : List (Group ℕ ℕ)) → NameEarlier 0 ms → (tags : List ℕ) (startup : Bool) (i : ℕ) → i < length (taken ms).declared
    → SameType ms (list_groups (interned ms tags startup)) i (get_or (taken ms).declared i 0)
same-index ms near tags startup i lt =
    let w = whole ms near in
    let l = interned ms tags startup in
    let b = (taken ms).built in
    let behind = extends-interned ms tags startup in
    all-same ms (number_in ms) w.exact l (well-named ms near tags startup) (taken_groups ms) empty [] w.groups.stand w.groups.covers
    (subst (λ b. Extends b l) w.groups.built behind) (λ j below none. absurd (false≢true none)) i (omega (arith, lt, w.counted))
