use Rattle.std.proofs.Common.{◌≡◌, ◌++◌, length}
use Rattle.wasm_spec.specs.Module.{groups, groups_of_section}
use Rattle.form_reader.specs.Views.{group_of}
use Rattle.form_reader.specs.TypeRows.{group}
use Rattle.form_rules.specs.Source.{source_module}
use Rattle.form_rules.specs.Walk.{walk_left}
use Rattle.rule_breaks.specs.TypeFlags.{function_flags}
use Rattle.rule_breaks.proofs.declared.functions_in.Given as goal

-- the flags of the remaining groups are still to be added
abbrev pub invariant-loop-groups : goal.invariant-loop-groups
invariant-loop-groups l = l.flags.items ++ function_flags (walk_left group.read group_of groups_of_section l.groups) ≡ function_flags (groups (source_module l.source))

abbrev pub decreases-loop-groups : goal.decreases-loop-groups
decreases-loop-groups l = length (walk_left group.read group_of groups_of_section l.groups)
