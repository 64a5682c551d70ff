use Rattle.std.proofs.Common.{◌≡◌, ◌++◌}
use Rattle.std.specs.List.{flat_map}
use Rattle.plan_lines.specs.Numbers.{keyed_lines}
use Rattle.plan_lines.specs.MemoryLines.{image_lines}
use Rattle.plan_lines.proofs.memory_lines.append_images.Given as goal

abbrev pub invariant-loop-memory : goal.invariant-loop-memory
invariant-loop-memory l = l.text ++ flat_map (λ p. image_lines p.0 p.1) l.memory-iterator ≡ l.initial.text ++ keyed_lines image_lines l.images
