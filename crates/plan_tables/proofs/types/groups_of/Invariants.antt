use Rattle.std.proofs.Common.{◌≡◌, ◌++◌, map}
use Rattle.plan_tables.specs.Types.{index_range}
use Rattle.plan_tables.proofs.types.groups_of.Given as goal

abbrev pub invariant-loop-range : goal.invariant-loop-range
invariant-loop-range l = l.groups.items ++ map (λ p. index_range p.1) l.range-iterator ≡ map index_range l.types.groups
