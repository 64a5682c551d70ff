use Rattle.std.proofs.Common.{ℕ, ◌<◌, ◌^◌}
use Rattle.std.specs.List.{All}
use Rattle.std.specs.Prelude.{List}
use Rattle.vm_offsets.specs.Layouts.{fields_of, pointer_of}
use Rattle.vm_offsets.specs.Regions.{context_regions}
use Rattle.plan_laws.proofs.memory_bytes.each_region.Given as goal

abbrev pub invariant-loop-size : goal.invariant-loop-size
invariant-loop-size l = All (λ (p : List ℕ × ℕ). p.1 < 2 ^ 32) l.size-iterator → All (λ (p : List ℕ × ℕ). p.1 < 2 ^ 32) (context_regions (pointer_of l.offsets) (fields_of l.offsets))
