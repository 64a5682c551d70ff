use Rattle.std.proofs.Common.{length}
use Rattle.wasm_spec.specs.Module.{groups, groups_of_section}
use Rattle.rule_spec.specs.Lists.{declared_groups}
use Rattle.form_reader.specs.Views.{group_of}
use Rattle.form_reader.specs.TypeRows.{group}
use Rattle.form_rules.specs.Source.{source_module}
use Rattle.form_rules.specs.Walk.{walk_left}
use Rattle.rule_breaks.specs.TypeFlags.{IsWell}
use Rattle.rule_breaks.proofs.Searching.{Passes}
use Rattle.rule_breaks.proofs.declared.first_bad_type.Given as goal

-- the types of the groups so far keep the rule
abbrev pub invariant-loop-groups : goal.invariant-loop-groups
invariant-loop-groups l =
    Passes (IsWell l.flags) l.number (declared_groups l.number (walk_left group.read group_of groups_of_section l.groups))
    (declared_groups 0 (groups (source_module l.source)))

abbrev pub decreases-loop-groups : goal.decreases-loop-groups
decreases-loop-groups l = length (walk_left group.read group_of groups_of_section l.groups)
