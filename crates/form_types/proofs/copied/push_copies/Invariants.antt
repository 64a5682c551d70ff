use Rattle.std.proofs.Common.{map, take}
use Rattle.form_reader.specs.Views.{group_of}
use Rattle.form_reader.specs.Input.{AddsGroups}
use Rattle.form_types.specs.Taken.{IsNumberingOf}
use Rattle.form_types.proofs.copied.push_copies.Given as goal

-- the numbering has taken copies of the groups so far
abbrev pub invariant-loop-group : goal.invariant-loop-group
invariant-loop-group l = AddsGroups IsNumberingOf l.initial.numbering l.numbering (map group_of (take l.group-index l.groups))
