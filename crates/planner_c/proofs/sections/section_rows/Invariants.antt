use Rattle.std.proofs.Common.{◌≡◌, map, take}
use Rattle.planner_c.specs.Sections.{section_told, section_row}
use Rattle.planner_c.proofs.sections.section_rows.Given as goal

abbrev pub invariant-loop-place : goal.invariant-loop-place
invariant-loop-place l = map section_told l.rows.items ≡ map section_row (take l.place-index l.places)
