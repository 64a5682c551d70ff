use Rattle.std.proofs.Common.{length}
use Rattle.rule_spec.specs.TypeRules.{NamesFunctionType}
use Rattle.form_rules.specs.Views.{lists_of}
use Rattle.rule_breaks.proofs.Searching.{Passes}
use Rattle.rule_breaks.proofs.types.first_of_no_function_type.Given as goal

-- those so far keep the rule
abbrev pub invariant-loop-first : goal.invariant-loop-first
invariant-loop-first l = Passes (NamesFunctionType (lists_of l.lists)) l.number l.left l.indices

abbrev pub decreases-loop-first : goal.decreases-loop-first
decreases-loop-first l = length l.left
