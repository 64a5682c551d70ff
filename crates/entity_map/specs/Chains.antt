-- Hash chains: the numbers whose hashes have the same slot are linked.
use Rattle.std.specs.Prelude.{◌≡◌, ◌≢◌, ℕ, ◌+◌, ◌*◌, ◌/◌, ◌^◌, ◌<◌, ◌≤◌, List, length, slice_index}
use Rattle.entity_map.specs.declared.chains.Chains.{Chains}

unfoldable pub slot : ℕ → ℕ → ℕ
slot slots hash = hash * slots / 2 ^ 32

abbrev pub room_of : Chains → ℕ
room_of chains = length chains.before.items

abbrev pub slots_of : Chains → ℕ
slots_of chains = length chains.last.items

-- a link leads to the greatest number below another whose hash has a slot, or there is none
pub record IsLink (hashes : List ℕ) (slots s below link : ℕ) : Type 0 where
  pub within : link ≤ below
  pub skipped : (i : ℕ) → link ≤ i → i < below → slot slots (slice_index hashes i) ≢ s
  pub in_slot : (i : ℕ) → link ≡ i + 1 → slot slots (slice_index hashes i) ≡ s

-- the numbers of hashes are chained: each slot links to its last number, and each number to the one
-- before it
pub record IsTable (hashes : List ℕ) (chains : Chains) : Type 0 where
  pub room : length hashes ≤ room_of chains
  pub twice : slots_of chains ≡ 2 * room_of chains
  pub from_slot : (s : ℕ) → s < slots_of chains → IsLink hashes (slots_of chains) s (length hashes) (slice_index chains.last.items s)
  pub from_number : (i : ℕ) → i < length hashes
      → IsLink hashes (slots_of chains) (slot (slots_of chains) (slice_index hashes i)) i (slice_index chains.before.items i)
