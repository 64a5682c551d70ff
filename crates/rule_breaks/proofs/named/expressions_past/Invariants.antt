use Rattle.std.proofs.Common.{length, map}
use Rattle.form_reader.specs.Views.{expression_of}
use Rattle.rule_breaks.specs.Named.{expression_types}
use Rattle.rule_breaks.proofs.FirstPast.{Remains}
use Rattle.rule_breaks.proofs.named.expressions_past.Given as goal

-- what is found among those that remain is found among all
abbrev pub invariant-loop-first : goal.invariant-loop-first
invariant-loop-first l = Remains l.bound expression_types (map expression_of l.left) (map expression_of l.expressions)

abbrev pub decreases-loop-first : goal.decreases-loop-first
decreases-loop-first l = length l.left
