use Rattle.std.proofs.Common.{◌≡◌, ◌+◌, take}
use Rattle.std.specs.Prelude.{sum_by}
use Rattle.wasm_types.specs.Memories.{minimum_bytes}
use Rattle.plan_run.specs.Limits.{most_bytes}
use Rattle.plan_run.proofs.limits.have_too_many_bytes.Given as goal

abbrev pub invariant-loop-memory : goal.invariant-loop-memory
invariant-loop-memory l = l.left + sum_by minimum_bytes (take l.memory-index l.memories) ≡ most_bytes
