use Rattle.std.proofs.Common.{◌≡◌, ◌+◌, ◌<◌}
use Rattle.std.specs.Prelude.{IfSome, is_some}
use Rattle.rule_spec.specs.declared.rules.Rule.{Rule}
use Rattle.rule_spec.specs.Lists.{lists_of_module}
use Rattle.rule_spec.specs.Rules.{Satisfies, number_of}
use Rattle.form_rules.specs.Source.{source_module}
use Rattle.form_rules.specs.Views.{lists_of}
use Rattle.form_rules.specs.Names.{exported_names}
use Rattle.form_rules.proofs.rules.checked_lists.Given as goal

-- the first rule and the rules so far are kept, and the names of exports are pooled, where they are distinct
abbrev pub invariant-loop-rule : goal.invariant-loop-rule
invariant-loop-rule l = record {
  kept : (r : Rule) → number_of r < l.rule-index + 2 → Satisfies r (lists_of l.typing.lists.now);
  pooled : IfSome l.names (λ texts. texts ≡ exported_names (lists_of_module (source_module l.source)).exports);
  distinct : l.findings.distinct ≡ is_some l.names;
}
