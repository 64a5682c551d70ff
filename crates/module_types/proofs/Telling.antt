-- Two groups become one, where each reference is given by what it names, exactly where the groups
-- are equal.
use Rattle.std.proofs.Common.{arith}
use Rattle.std.proofs.Common.{◌≡◌, ◌↔◌, ℕ, ◌-◌, ◌<◌, ◌≤◌, Bool, true, false, nat_le, List, refl}
use Rattle.std.specs.List.{All}
use Rattle.std.proofs.lemmas.Bool.{leb-true, leb-false}
use Rattle.wasm_spec.specs.TypeData.{Group, group_edges}
use Rattle.type_spec.specs.Names.{NameKind}
use Rattle.type_spec.specs.Equality.{Home, home, target, target_by, SameTarget, SameGroup, SameType}
use Rattle.type_spec.proofs.Equivalence.{groups-type}
use Rattle.type_spec.proofs.ByNames.{name_by, by_names, names-same, same-names, zip-known}

-- a group of each of two lists, where their references end, and what is given for references
module _ {X : Type 0} (ms ns : List (Group ℕ ℕ)) (h k : Home) (end end' : ℕ) (kind kind' : ℕ → NameKind) (given given' : ℕ → X) where
  abbrev Same : ℕ → ℕ → Type 0
  Same i j = SameType ms ns i j

  -- references inside the groups are distinguished by position, those outside by type, and neither
  -- is given as the other
  pub record Tells : Type 0 where
    pub near : All (λ r. r < end) (group_edges (λ r. r) h.members)
    pub near' : All (λ r. r < end') (group_edges (λ r. r) k.members)
    pub home_is : (r : ℕ) → h.start ≤ r → r < end → home ms r ≡ h
    pub home_is' : (r : ℕ) → k.start ≤ r → r < end' → home ns r ≡ k
    pub inside : (r s : ℕ) → h.start ≤ r → r < end → k.start ≤ s → s < end' → (given r ≡ given' s) ↔ (r - h.start ≡ s - k.start)
    pub outside : (r s : ℕ) → r < h.start → r < end → s < k.start → s < end' → (given r ≡ given' s) ↔ SameType ms ns r s
    pub apart : (r s : ℕ) → h.start ≤ r → r < end → s < k.start → given r ≡ given' s → ⊥
    pub apart' : (r s : ℕ) → r < h.start → k.start ≤ s → s < end' → given r ≡ given' s → ⊥
    pub kinds : (r s : ℕ) → r < end → s < end' → SameType ms ns r s → kind r ≡ kind' s

  module _ (t : Tells) where
    reads : (r s : ℕ) → r < end → s < end' → (c d : Bool) → nat_le h.start r ≡ c → nat_le k.start s ≡ d
        → (given r ≡ given' s) ↔ SameTarget Same (target_by c (r - h.start) r) (target_by d (s - k.start) s)
    reads r s p q true true e f = t.inside r s (leb-true h.start r e) p (leb-true k.start s f) q
    reads r s p q true false e f = (t.apart r s (leb-true h.start r e) p (leb-false k.start s f), λ no. absurd no)
    reads r s p q false true e f = (t.apart' r s (leb-false h.start r e) (leb-true k.start s f) q, λ no. absurd no)
    reads r s p q false false e f = t.outside r s (leb-false h.start r e) p (leb-false k.start s f) q

    pub same-at : SameGroup Same h k → (r s : ℕ) → h.start ≤ r → r < end → k.start ≤ s → s < end' → r - h.start ≡ s - k.start → SameType ms ns r s
    same-at groups r s low p low' q at = grind (arith, groups-type)

    module _ (groups : SameGroup Same h k) where
      same-named : (r s : ℕ) → r < end → s < end' → (c d : Bool) → nat_le h.start r ≡ c → nat_le k.start s ≡ d
          → SameTarget Same (target_by c (r - h.start) r) (target_by d (s - k.start) s) → SameType ms ns r s
      same-named r s p q c d e f same = grind (arith, same-at, leb-true)

      names : (r s : ℕ) → r < end → s < end' → SameTarget Same (target (λ i. i) h.start r) (target (λ i. i) k.start s)
          → name_by kind given r ≡ name_by kind' given' s
      names r s p q same = grind (arith, same-named, reads)

    pub told : (by_names kind given h.members ≡ by_names kind' given' k.members) ↔ SameGroup Same h k
    told = (
      (λ same.
          let alike = same-names kind kind' given given' h.members k.members same in
          record {
            frames = alike.frames;
            edges = zip-known (λ r. r < end) (λ s. s < end') _ _ (λ r s p q e. (reads r s p q (nat_le h.start r) (nat_le k.start s) refl refl).0 e)
                (group_edges (λ r. r) h.members) (group_edges (λ r. r) k.members) t.near t.near' alike.edges;
          }),
      (λ groups. names-same kind kind' given given' h.members k.members (record {
        frames = groups.frames;
        edges = zip-known (λ r. r < end) (λ s. s < end') _ _ (names groups) (group_edges (λ r. r) h.members) (group_edges (λ r. r) k.members) t.near t.near'
            groups.edges;
      })),
    )
