use Rattle.std.proofs.Common.{arith, ℕ, length, ap}
use Rattle.std.specs.HashMap.{HashMap}
use Rattle.type_registry.specs.declared.hashing.GroupHashes.{GroupHashes}
use Rattle.type_registry.specs.Keeping.{Shared}
use Rattle.type_registry.proofs.known.reserve.Goals as goal

pub moved-requires-clause-room : goal.moved-requires-clause-room
moved-requires-clause-room c =
    omega (arith, ap (λ (m : HashMap Shared ℕ GroupHashes). length m.entries) c.replace-old.ensures.value, c.len-len.ensures.len, c.in-Some.ensures.1, c.in_ok-into.ensures.spare)

pub returns-clause-spare : goal.returns-clause-spare
returns-clause-spare c = omega (
  arith,
  ap (λ (m : HashMap Shared ℕ GroupHashes). length m.entries) c.replace-old.ensures.value,
  c.len-len.ensures.len,
  c.in-Some.ensures.1,
  c.in_ok-into.ensures.spare,
  c.moved.ensures.spare,
)
