use Rattle.std.proofs.Common.{◌≡◌, ◌+◌, take}
use Rattle.std.specs.Prelude.{sum_by}
use Rattle.wasm_types.specs.Memories.{minimum_bytes}
use Rattle.paged_memory.specs.Memory.{page_count}
use Rattle.plan_run.specs.Limits.{most_pages}
use Rattle.plan_run.proofs.limits.have_too_many_pages.Given as goal

abbrev pub invariant-loop-memory : goal.invariant-loop-memory
invariant-loop-memory l = l.left + sum_by (λ m. page_count l.page (minimum_bytes m)) (take l.memory-index l.memories) ≡ most_pages
