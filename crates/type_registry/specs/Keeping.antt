-- How groups are kept.
use Rattle.std.specs.Prelude.{◌≡◌, ◌<◌, ℕ, ◌+◌, List, [], ◌∷◌, length, map, slice_get, Option, Some, None, option_and_then}
use Rattle.std.specs.HashMap.{HashMap, get_by}
use Rattle.std.specs.Global.{Global}
use Rattle.std.specs.declared.rc.Rc.{Rc}
use Rattle.type_registry.specs.declared.hashing.GroupHashes.{GroupHashes}
use Rattle.wasm_types.specs.declared.sub.WasmSubType.{WasmSubType}
use Rattle.wasm_types.specs.contracts.equal_groups.WasmRecGroupPartialEq.TheImpl as groups_equal
use Rattle.type_registry.specs.declared.owners.Owner.{Owner}
use Rattle.type_registry.specs.Owners.{owner_at, free_count}
use Rattle.type_registry.specs.Registry.{Groups, Group, indices_of}

-- each group that is kept, from an index on, with its first index
abbrev pub kept_from : ℕ → List (Option Group) → Groups
kept_from i [] = []
kept_from i (None ∷ gs) = kept_from (i + 1) gs
kept_from i (Some g ∷ gs) = (i, g) ∷ kept_from (i + 1) gs

-- the group at a first index
abbrev pub group_in : List (Option Group) → ℕ → Option Group
group_in gs n = option_and_then (λ (g : Option Group). g) (slice_get gs n)

-- an index that has an owner is the one at the owner's position of the owner's group
pub record IsOwned (gs : List (Option Group)) (n : ℕ) (o : Owner) : Type 0 where
  pub group : Group
  pub kept : group_in gs o.first ≡ Some group
  pub at : slice_get group.indices o.place ≡ Some n

-- the group at a first index has these canonical members
pub record HasCanonical (gs : List (Option Group)) (f : ℕ) (c : List WasmSubType) : Type 0 where
  pub group : Group
  pub kept : group_in gs f ≡ Some group
  pub same : group.canonical ≡ c

-- how many indices are live; the owner of each; and the first index of each group by keys that are
-- its canonical members
pub record AreKeptByKeys {Key : Type 0} (content : Key → List WasmSubType) (live : ℕ) (known : Key → Option ℕ) (gs : List (Option Group))
    (os : List (Option Owner)) (free : List ℕ) : Type 0 where
  pub few : length gs < 4294967296
  pub owners : length os ≡ length gs
  pub counted : live ≡ length (indices_of (kept_from 0 gs))
  pub first : (f : ℕ) (g : Group) → group_in gs f ≡ Some g → slice_get g.indices 0 ≡ Some f
  pub owned : (f p n : ℕ) (g : Group) → group_in gs f ≡ Some g → slice_get g.indices p ≡ Some n → owner_at os n ≡ Some (record { first = f; place = p })
  pub owns : (n : ℕ) (o : Owner) → owner_at os n ≡ Some o → IsOwned gs n o
  pub unowned : free ≡ map free_count os
  pub found : (f : ℕ) (g : Group) → group_in gs f ≡ Some g → (key : Key) → content key ≡ g.canonical → known key ≡ Some f
  pub knows : (key : Key) (f : ℕ) → known key ≡ Some f → HasCanonical gs f (content key)

abbrev pub Shared : Type 0
Shared = Rc (List WasmSubType) Global

abbrev pub shared_content : Shared → List WasmSubType
shared_content r = r.value

abbrev pub first_of : HashMap Shared ℕ GroupHashes → Shared → Option ℕ
first_of known key = get_by (λ (k : Shared). groups_equal.ghosts.eq key.value k.value) known

abbrev pub GroupsAreKept : ℕ → HashMap Shared ℕ GroupHashes → List (Option Group) → List (Option Owner) → List ℕ → Type 0
GroupsAreKept live known gs os free = AreKeptByKeys shared_content live (first_of known) gs os free
