-- A group that is appended to a well named list leaves it well named.
use Rattle.std.proofs.lemmas.Grind.{common_steps}
use Rattle.std.proofs.Common.{◌≡◌, ◌<◌, ◌≤◌, ℕ, ◌+◌, ◌-◌, List, [], ◌∷◌, ◌++◌, length, drop, map, refl, sym, ap, subst, arith, length-append}
use Rattle.std.specs.List.{All}
use Rattle.std.proofs.lemmas.List.{length-map, map-append, drop-append-le, take-append-le, length-drop, length-take-le}
use Rattle.std.proofs.Math.Seq.{drop-append_seam, take-length}
use Rattle.std.proofs.lemmas.List.Concat.{flat_map-append}
use Rattle.std.proofs.lemmas.List.Elements.{All-append, All-weaker}
use Rattle.wasm_spec.specs.TypeData.{Group, map_sub_type, group_edges, sub_type_edges}
use Rattle.type_spec.specs.Names.{index_of}
use Rattle.type_spec.specs.Interned.{Interned, GroupSpan, kind_of_type}
use Rattle.type_spec.specs.Taken.{NameEarlier}
use Rattle.type_spec.proofs.Homes.{size, size-cons}
use Rattle.type_spec.proofs.ByNames.{name_by, by_names, names-same, zip-known-itself}
use Rattle.module_types.specs.Orderly.{LieBetween}
use Rattle.module_types.specs.ListGroups.{unkinded, types_in, kind_in}
use Rattle.module_types.proofs.GroupMembers.{composite-before, one-more, lie-to}

abbrev pub AllBelow : ℕ → Group ℕ ℕ → Type 0
AllBelow end g = All (λ r. r < end) (group_edges (λ r. r) g)

abbrev pub groups_of : List Interned → List GroupSpan → List (Group ℕ ℕ)
groups_of ts ss = map (λ (s : GroupSpan). unkinded (types_in ts s)) ss

-- a well named list, and what is below its end
pub record Well (ts : List Interned) (ss : List GroupSpan) : Type 0 where
  pub orderly : LieBetween 0 ss (length ts)
  pub earlier : NameEarlier 0 (groups_of ts ss)
  pub below : AllBelow (length ts) (unkinded ts)
  pub kinds : by_names (kind_in ts) (λ r. r) (unkinded ts) ≡ ts

pub unkinded-long : (ts : List Interned) → length (unkinded ts) ≡ length ts
unkinded-long ts = length-map ts _

-- ---- spans

pub lie-low : (first end : ℕ) (ss : List GroupSpan) → LieBetween first ss end → first ≤ end
lie-low first end [] lie = omega (arith, lie)
lie-low first end (s ∷ ss) lie = let rest = lie-low s.end end ss lie.2 in omega (arith, rest, lie.0, lie.1)

pub types-long : (ts : List Interned) (s : GroupSpan) → s.start ≤ s.end → s.end ≤ length ts → length (types_in ts s) ≡ s.end - s.start
types-long ts s low high = length-take-le (s.end - s.start) (drop s.start ts) (omega (arith, length-drop s.start ts, low, high))

groups-before : (ts us : List Interned) (ss : List GroupSpan) (first end : ℕ) → LieBetween first ss end → end ≤ length ts
    → groups_of (ts ++ us) ss ≡ groups_of ts ss
groups-before ts us [] first end lie le = refl
groups-before ts us (s ∷ ss) first end lie le =
    let low = lie-low s.end end ss lie.2 in
    let high : s.end ≤ length ts = omega (arith, low, le) in
    let same : types_in (ts ++ us) s ≡ types_in ts s = grind (arith, lie.1, drop-append-le, take-append-le, length-drop) in
    λ i. unkinded (same i) ∷ groups-before ts us ss s.end end lie.2 le i

pub span-ends : (ts : List Interned) (s : GroupSpan) (ss : List GroupSpan) (first end : ℕ) → LieBetween first (s ∷ ss) end → end ≤ length ts
    → first + length (unkinded (types_in ts s)) ≡ s.end
span-ends ts s ss first end lie le = grind (arith, lie-low, unkinded-long, types-long)

pub groups-size : (ts : List Interned) (ss : List GroupSpan) (first end : ℕ) → LieBetween first ss end → end ≤ length ts
    → first + size (groups_of ts ss) ≡ end
groups-size ts [] first end lie le = omega (arith, lie)
groups-size ts (s ∷ ss) first end lie le = grind (arith, size-cons (unkinded (types_in ts s)) (groups_of ts ss), span-ends ts s ss first end lie le, (groups-size ts ss s.end end lie.2 le))

earlier-more : (gs : List (Group ℕ ℕ)) (g : Group ℕ ℕ) (start : ℕ) → NameEarlier start gs → AllBelow (start + size gs + length g) g
    → NameEarlier start (gs ++ g ∷ [])
earlier-more [] g start earlier here = let e : start + 0 + length g ≡ start + length g = omega arith in (subst (λ n. AllBelow n g) e here, tt)
earlier-more (h ∷ gs) g start earlier here =
    let e : start + size (h ∷ gs) + length g ≡ start + length h + size gs + length g = omega (arith, size-cons h gs) in
    (earlier.0, earlier-more gs g (start + length h) earlier.1 (subst (λ n. AllBelow n g) e here))

-- ---- kinds

-- kinds stay where types are appended
pub kind-before : (ts us : List Interned) (i : ℕ) → i < length ts → kind_in (ts ++ us) i ≡ kind_in ts i
kind-before ts us i lt = ap (λ c. kind_of_type c) (composite-before ts us i lt)

pub named-before : (ts us : List Interned) (g : Group ℕ ℕ) → AllBelow (length ts) g
    → by_names (kind_in (ts ++ us)) (λ r. r) g ≡ by_names (kind_in ts) (λ r. r) g
named-before ts us g below =
    names-same (kind_in (ts ++ us)) (kind_in ts) (λ r. r) (λ r. r) g g (record {
      frames = refl;
      edges = zip-known-itself (λ r. r < length ts) _ (λ r lt. ap (λ k. name_by (λ i. k) (λ i. i) r) (kind-before ts us r lt)) (group_edges
          (λ r. r) g) below;
    })

-- ---- a group more

module _ (ts us : List Interned) (ss : List GroupSpan) (well : Well ts ss) (some : 0 < length us)
    (below : AllBelow (length ts + length us) (unkinded us)) (kinds : by_names (kind_in (ts ++ us)) (λ r. r) (unkinded us) ≡ us) where
  abbrev span : GroupSpan
  span = record { start = length ts; end = length ts + length us }

  pub well-next : Well (ts ++ us) (ss ++ span ∷ [])
  well-next =
      let sized = groups-size ts ss 0 (length ts) well.orderly (omega arith) in
      let at : length ts + length us ≡ 0 + size (groups_of ts ss) + length (unkinded us) = omega (arith, sized, unkinded-long us) in
      let groups : groups_of (ts ++ us) (ss ++ span ∷ []) ≡ groups_of ts ss ++ unkinded us ∷ [] =
      grind (arith, common_steps, map-append, groups-before, drop-append_seam, take-length) in
      let joined : unkinded (ts ++ us) ≡ unkinded ts ++ unkinded us = map-append (map_sub_type (index_of {R = ℕ}) (λ (r : ℕ). r)) ts us in
      record {
        orderly = grind (arith, lie-to, length-append, one-more);
        earlier = grind (arith, groups, earlier-more);
        below = subst (λ n. AllBelow n (unkinded (ts ++ us))) (sym (length-append ts us))
            (subst (λ g. AllBelow (length ts + length us) g) (sym joined)
            (subst (λ rs. All (λ r. r < length ts + length us) rs) (sym (flat_map-append (sub_type_edges (λ r. r)) (unkinded ts) (unkinded us)))
            (All-append (λ r. r < length ts + length us) (group_edges (λ r. r) (unkinded ts)) (group_edges (λ r. r) (unkinded us))
            (All-weaker (λ r. r < length ts) (λ r. r < length ts + length us) (λ r lt. omega (arith, lt)) _ well.below) below)));
        kinds = grind (arith, named-before ts us (unkinded ts) well.below, by_names, map-append, name_by);
      }
