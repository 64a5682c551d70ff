use Rattle.std.proofs.Common.{◌≡◌, ◌++◌}
use Rattle.std.specs.Hash as fed
use Rattle.type_registry.specs.Hashing.{first_state, write_whole}
use Rattle.std.specs.List.{flat_map, fold}
use Rattle.type_registry.proofs.Digests.{taken, all_taken}
use Rattle.type_registry.proofs.hashing.next_seed.Given as goal

-- with the remaining types it is the digest of all
abbrev pub invariant-loop-index : goal.invariant-loop-index
invariant-loop-index l =
    fold write_whole l.digest (all_taken l._index-iterator) ≡ fold write_whole first_state (fed.u64 l.seed ++ flat_map taken l.types.types)
