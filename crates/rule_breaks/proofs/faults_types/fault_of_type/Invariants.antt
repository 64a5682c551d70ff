use Rattle.std.proofs.Common.{length}
use Rattle.wasm_spec.specs.Module.{groups, groups_of_section}
use Rattle.rule_spec.specs.Lists.{declared_groups}
use Rattle.form_reader.specs.Views.{group_of}
use Rattle.form_reader.specs.TypeRows.{group}
use Rattle.form_rules.specs.Source.{source_module}
use Rattle.form_rules.specs.Walk.{walk_left}
use Rattle.rule_breaks.proofs.MemberFaults.{TypeRemains}
use Rattle.rule_breaks.proofs.faults_types.fault_of_type.Given as goal

-- the type is in a group that remains
abbrev pub invariant-loop-groups : goal.invariant-loop-groups
invariant-loop-groups l =
    TypeRemains (declared_groups 0 (groups (source_module l.source))) (walk_left group.read group_of groups_of_section l.groups) l.start l.entry

abbrev pub decreases-loop-groups : goal.decreases-loop-groups
decreases-loop-groups l = length (walk_left group.read group_of groups_of_section l.groups)
