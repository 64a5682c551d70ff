use Rattle.std.proofs.Common.{◌-◌, ◌++◌}
use Rattle.module_generator.specs.Spelling.{groups}
use Rattle.module_generator.proofs.Groups.{Spelled}
use Rattle.module_generator.proofs.bytes.push_groups.Given as goal

-- with the bytes of what remains, the number is written
abbrev pub invariant-loop-rest : goal.invariant-loop-rest
invariant-loop-rest l = Spelled l.bytes.items l.top l.rest (l.initial.bytes.items ++ groups l.top 9 l.number)

abbrev pub decreases-loop-rest : goal.decreases-loop-rest
decreases-loop-rest l = l.rest
