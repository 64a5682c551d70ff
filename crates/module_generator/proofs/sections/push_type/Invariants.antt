use Rattle.std.proofs.Common.{◌≡◌, ◌++◌, map}
use Rattle.std.specs.List.{range_with_len}
use Rattle.module_generator.specs.Generated.{parameter}
use Rattle.module_generator.proofs.sections.push_type.Given as goal

-- the parameters so far are written
abbrev pub invariant-loop-j : goal.invariant-loop-j
invariant-loop-j l = l.bytes.items ≡ l.initial.bytes.items ++ map (parameter l.k) (range_with_len 0 l.j)
