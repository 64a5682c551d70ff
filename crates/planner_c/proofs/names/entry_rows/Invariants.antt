use Rattle.std.proofs.Common.{◌≡◌, map, take}
use Rattle.name_maps.specs.Entries.{entry_of}
use Rattle.planner_c.specs.Names.{entry_told, entry_row}
use Rattle.planner_c.proofs.names.entry_rows.Given as goal

abbrev pub invariant-loop-entry : goal.invariant-loop-entry
invariant-loop-entry l = map entry_told l.rows.items ≡ map (λ e. entry_row (entry_of e)) (take l.entry-index l.entries)
