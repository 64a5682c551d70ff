use Rattle.std.proofs.Common.{◌≡◌, ◌++◌, take}
use Rattle.std.specs.List.{flat_map}
use Rattle.plan_lines.specs.TableLines.{cell_text}
use Rattle.plan_lines.proofs.table_lines.append_cells.Given as goal

abbrev pub invariant-loop-function : goal.invariant-loop-function
invariant-loop-function l = l.text ≡ l.initial.text ++ flat_map cell_text (take l.function-index l.cells)
