use Rattle.std.proofs.Common.{◌≡◌, ◌≢◌, ℕ, ◌+◌, ◌<◌, ◌≤◌, length, slice_get, slice_index, Some}
use Rattle.entity_map.specs.Chains.{slot, slots_of}
use Rattle.entity_map.proofs.chains.Chains.find.Given as goal

-- no text from the link on is this one, and the link belongs to the slot of the hash
abbrev pub invariant-loop-link : goal.invariant-loop-link
invariant-loop-link l = record {
  within : l.link ≤ length l.hashes;
  apart : (i : ℕ) → l.link ≤ i → i < length l.hashes → slice_index l.hashes i ≡ l.hash → slice_get l.texts i ≢ Some l.text;
  in_slot : (i : ℕ) → l.link ≡ i + 1 → slot (slots_of l.self) (slice_index l.hashes i) ≡ slot (slots_of l.self) l.hash;
}

abbrev pub decreases-loop-link : goal.decreases-loop-link
decreases-loop-link l = l.link
