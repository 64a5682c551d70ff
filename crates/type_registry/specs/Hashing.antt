-- Hashes whose writes are complete words.
use Rattle.std.specs.Prelude.{ℕ, ◌-◌, ◌++◌, List, length, nat_lt, replicate, if◌then◌else◌}
use Rattle.std.specs.Hash.DefaultHasher as sip
use Rattle.type_registry.specs.declared.hashing.WordHasher.{WordHasher}

-- what is shorter than a word is padded with zeros
abbrev pub padded : List ℕ → List ℕ
padded bytes = bytes ++ replicate (8 - length bytes) 0

abbrev pub whole : List ℕ → List ℕ
whole bytes = if nat_lt (length bytes) 8 then padded bytes else bytes

-- SipHash over such writes: its first state, the state after a write, and the hash
abbrev pub first_state : WordHasher
first_state = record { sip = sip.initial }

abbrev pub write_whole : WordHasher → List ℕ → WordHasher
write_whole s bytes = record { sip = sip.write s.sip (whole bytes) }

abbrev pub hash_of : WordHasher → ℕ
hash_of s = sip.finish s.sip
