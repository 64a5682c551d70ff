use Rattle.std.proofs.Common.{◌<◌, ◌^◌, arith}
use Rattle.wasm_types.specs.Memories.{minimum_bytes}
use Rattle.plan_run.specs.Limits.{page_size_of}
use Rattle.plan_run.proofs.Given.{within-of}
use Rattle.plan_run.proofs.LeftSteps.{last-at}
use Rattle.plan_run.proofs.memories.first_memories.Goals as goal

pub first_memory-requires-clause-small : goal.first_memory-requires-clause-small
first_memory-requires-clause-small c = last-at (λ m. minimum_bytes m < 2 ^ 64) c.as_slice-types.result.now c.args.translation.now.«module».num_imported_memories c.loop-i.i _
    (omega arith) (omega arith) (rw c.as_slice-types.ensures c.requires.small)

pub first_memory-requires-clause-within : goal.first_memory-requires-clause-within
first_memory-requires-clause-within c =
    let t = c.args.translation.now in
    rw (c.page_size-page.ensures, c.image_of-image.ensures)
    (within-of t c.args.way (page_size_of t) c.loop-i.i c.as_slice-types.result.now _ c.as_slice-types.ensures (omega arith) (omega arith) c.requires.within)
