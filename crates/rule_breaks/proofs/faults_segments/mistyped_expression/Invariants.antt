use Rattle.std.proofs.Common.{length, map}
use Rattle.form_reader.specs.Views.{expression_of}
use Rattle.rule_spec.specs.declared.classes.Class.TheVariants as class
use Rattle.rule_spec.specs.Typing.{HasClass}
use Rattle.form_rules.specs.Views.{lists_of}
use Rattle.rule_breaks.proofs.Searching.{Passes}
use Rattle.rule_breaks.proofs.faults_segments.mistyped_expression.Given as goal

-- the items so far are references
abbrev pub invariant-loop-first : goal.invariant-loop-first
invariant-loop-first l =
    Passes (λ e. HasClass (lists_of l.lists) (lists_of l.lists).global_types e class.Ref) l.number (map expression_of l.left) (map expression_of l.list)

abbrev pub decreases-loop-first : goal.decreases-loop-first
decreases-loop-first l = length l.left
