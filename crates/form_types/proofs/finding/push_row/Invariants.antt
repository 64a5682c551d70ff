use Rattle.std.proofs.Common.{◌≡◌, ◌++◌}
use Rattle.std.specs.List.{range_with_len}
use Rattle.form_types.specs.EarlierTypes.{ids_of}
use Rattle.form_types.proofs.finding.push_row.Given as goal

abbrev pub invariant-loop-place : goal.invariant-loop-place
invariant-loop-place l = ids_of l.ids.items ≡ ids_of l.initial.ids.items ++ range_with_len l.first l.place
