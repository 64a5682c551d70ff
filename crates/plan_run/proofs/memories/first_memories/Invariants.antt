use Rattle.std.proofs.Common.{◌≡◌, ◌++◌, length, map, drop}
use Rattle.init_plan.specs.Views.{memory_plan_of}
use Rattle.plan_run.specs.Limits.{page_size_of, own_memories}
use Rattle.plan_run.specs.Memories.{seen, begun}
use Rattle.plan_run.proofs.memories.first_memories.Given as goal

-- with those that remain, the memories are all
abbrev pub invariant-loop-i : goal.invariant-loop-i
invariant-loop-i l = record {
  count : length l.memories.items ≡ l.i;
  begun_so_far : map seen l.memories.items ++ begun l.way (memory_plan_of l.translation) (page_size_of l.translation) l.i (drop l.i l.translation.«module».memories)
      ≡ map seen l.fn.imported.items ++ begun l.way (memory_plan_of l.translation) (page_size_of l.translation) l.translation.«module».num_imported_memories
      (own_memories l.translation);
}
