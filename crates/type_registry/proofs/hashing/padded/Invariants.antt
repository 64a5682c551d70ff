use Rattle.std.proofs.Common.{◌≡◌, ◌-◌, ◌++◌, replicate, take}
use Rattle.type_registry.proofs.hashing.padded.Given as goal

-- the bytes so far, and zeros
abbrev pub invariant-loop-place : goal.invariant-loop-place
invariant-loop-place l = l.word ≡ take l.place l.bytes ++ replicate (8 - l.place) 0
