use Rattle.std.proofs.Common.{arith, ℕ, Option}
use Rattle.std.specs.Option.{option_map}
use Rattle.type_registry.specs.Registry.{Group}
use Rattle.type_registry.proofs.FirstIndices.{group-seen}
use Rattle.type_registry.proofs.groups.Groups.count_of.Goals as goal

count : Option Group → Option ℕ
count o = option_map (λ (g : Group). g.count) o

pub returns-in_err-group : goal.returns-in_err-group
unfolding count
returns-in_err-group c = grind (arith, count, group-seen)

pub returns : goal.returns
unfolding count
returns c = grind (arith, count, group-seen)
