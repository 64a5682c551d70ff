use Rattle.std.proofs.Common.{◌≡◌, map, take}
use Rattle.plan_lines.specs.TypeLines.{listed_number}
use Rattle.plan_tables.proofs.types.functions_of.Given as goal

abbrev pub invariant-loop-function : goal.invariant-loop-function
invariant-loop-function l = l.numbers.items ≡ map (λ f. listed_number f.signature) (take l.function-index l.functions)
