use Rattle.std.proofs.Common.{length}
use Rattle.wasm_spec.specs.Module.{groups, groups_of_section}
use Rattle.form_reader.specs.Views.{group_of}
use Rattle.form_reader.specs.TypeRows.{group}
use Rattle.form_rules.specs.Source.{source_module}
use Rattle.form_rules.specs.Walk.{walk_left}
use Rattle.rule_breaks.proofs.SoughtEntries.{SeeksGroup}
use Rattle.rule_breaks.proofs.section_entries.group_of_type.Given as goal

abbrev pub invariant-loop-groups : goal.invariant-loop-groups
invariant-loop-groups l =
    SeeksGroup l.number l.left l.index (walk_left group.read group_of groups_of_section l.groups) (groups (source_module l.source))

abbrev pub decreases-loop-groups : goal.decreases-loop-groups
decreases-loop-groups l = length (walk_left group.read group_of groups_of_section l.groups)
