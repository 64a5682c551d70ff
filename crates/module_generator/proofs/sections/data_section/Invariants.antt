use Rattle.std.proofs.Common.{◌≡◌, ◌++◌}
use Rattle.std.specs.List.{flat_map, range_with_len}
use Rattle.module_generator.specs.Generated.{segment}
use Rattle.module_generator.proofs.sections.data_section.Given as goal

-- the elements so far are written
abbrev pub invariant-loop-k : goal.invariant-loop-k
invariant-loop-k l = l.contents.items ≡ l.initial.contents.items ++ flat_map segment (range_with_len 0 l.k)
