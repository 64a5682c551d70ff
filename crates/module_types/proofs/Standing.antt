-- The groups of a well named list, and their positions.
use Rattle.std.proofs.Common.{◌≡◌, ◌∙◌, ◌<◌, ◌≤◌, ℕ, zero, suc, ◌+◌, ◌-◌, List, [], ◌∷◌, length, drop, get_or, sym, ap, subst, arith}
use Rattle.std.proofs.lemmas.List.{map-append, take-append-drop, drop-drop, drop-map, take-map}
use Rattle.std.proofs.Math.ListN.{drop_of_length-le}
use Rattle.type_spec.specs.Names.{index_of}
use Rattle.type_spec.specs.Equality.{home_from}
use Rattle.type_spec.specs.Interned.{Interned, GroupSpan, Built, kind_of_type, kind_at}
use Rattle.type_spec.specs.Taken.{NameEarlier}
use Rattle.type_spec.proofs.Homes.{joined, size, in_front}
use Rattle.type_spec.proofs.ByNames.{name_by, by_names, some_type, joined-kind}
use Rattle.module_types.specs.Orderly.{LieBetween}
use Rattle.module_types.specs.Conversion.{no_span}
use Rattle.module_types.specs.ListGroups.{unkinded, types_in, home_of, list_groups, kind_in, IsWellNamed}
use Rattle.module_types.proofs.GroupKinds.{kind-mapped}
use Rattle.module_types.proofs.WellNamed.{AllBelow, groups_of, span-ends, groups-size, types-long, unkinded-long, lie-low}

-- a group with an index, in spans that begin at an index
pub record StandsFrom (ts : List Interned) (ss : List GroupSpan) (first end : ℕ) (s : GroupSpan) : Type 0 where
  pub low : first ≤ s.start
  pub some : s.start < s.end
  pub high : s.end ≤ end
  pub at : home_from first (groups_of ts ss) s.start ≡ home_of ts s
  pub near : AllBelow s.end (unkinded (types_in ts s))

stands-from : (ts : List Interned) (ss : List GroupSpan) (first end k : ℕ) → LieBetween first ss end → end ≤ length ts
    → NameEarlier first (groups_of ts ss)
    → k < length ss → StandsFrom ts ss first end (get_or ss k no_span)
stands-from ts [] first end k lie le earlier lt = absurd (omega arith)
stands-from ts (s ∷ ss) first end zero lie le earlier lt =
    let g = unkinded (types_in ts s) in
    let last = span-ends ts s ss first end lie le in
    record {
      low = omega (arith, lie.0);
      some = lie.1;
      high = lie-low s.end end ss lie.2;
      at = in_front first g (groups_of ts ss) s.start (omega (arith, last, lie.0, lie.1)) ∙ ap (λ n. record { start = n; members = g }) (sym lie.0);
      near = subst (λ n. AllBelow n g) last earlier.0;
    }
stands-from ts (s ∷ ss) first end (suc k) lie le earlier lt =
    let g = unkinded (types_in ts s) in
    let last = span-ends ts s ss first end lie le in
    let r = stands-from ts ss s.end end k lie.2 le (subst (λ n. NameEarlier n (groups_of ts ss)) last earlier.1) (omega arith) in
    let t = get_or ss k no_span in
    grind arith

-- the groups of a list are its types
pub joined-from : (ts : List Interned) (ss : List GroupSpan) (first : ℕ) → LieBetween first ss (length ts)
    → joined (groups_of ts ss) ≡ unkinded (drop first ts)
joined-from ts [] first lie = ap unkinded (sym (drop_of_length-le ts (omega (arith, lie))))
joined-from ts (s ∷ ss) first lie =
    let n = s.end - s.start in
    let at : s.start + n ≡ s.end = omega (arith, lie.1) in
    grind (arith, drop-drop n s.start ts, take-append-drop n (drop s.start ts), map-append, (joined-from ts ss s.end lie.2))

kind-plain : (ts : List Interned) (i : ℕ) → i < length ts → kind_of_type (get_or (unkinded ts) i some_type).composite.inner ≡ kind_in ts i
kind-plain [] i lt = absurd (omega arith)
kind-plain (t ∷ ts) zero lt = kind-mapped (index_of {R = ℕ}) (λ (r : ℕ). r) t.composite.inner
kind-plain (t ∷ ts) (suc i) lt = kind-plain ts i (omega arith)

module _ (b : Built) (w : IsWellNamed b) where
  pub list-size : size (list_groups b) ≡ length b.types
  list-size = omega (arith, groups-size b.types b.groups 0 (length b.types) w.orderly (omega arith))

  pub list-kind : (i : ℕ) → i < length b.types → kind_at (list_groups b) i ≡ kind_in b.types i
  list-kind i lt = grind (arith, joined-kind, list-size, some_type, joined-from, kind-plain)

  pub stands-at : (k : ℕ) → k < length b.groups → StandsFrom b.types b.groups 0 (length b.types) (get_or b.groups k no_span)
  stands-at k lt = stands-from b.types b.groups 0 (length b.types) k w.orderly (omega arith) w.earlier lt

  pub span-long : (k : ℕ) → k < length b.groups
      → length (unkinded (types_in b.types (get_or b.groups k no_span))) ≡ (get_or b.groups k no_span).end - (get_or b.groups k no_span).start
  span-long k lt = grind (arith, stands-at, unkinded-long, types-long)

  -- a group's types, by names
  pub span-named : (s : GroupSpan) → by_names (kind_in b.types) (λ r. r) (unkinded (types_in b.types s)) ≡ types_in b.types s
  span-named s = grind (arith, name_by, drop-map, take-map)
