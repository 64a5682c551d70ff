use Rattle.std.proofs.Common.{◌≡◌, ◌++◌, take}
use Rattle.std.specs.List.{flat_map}
use Rattle.plan_lines.specs.GlobalLines.{global_line}
use Rattle.plan_lines.proofs.global_lines.append_globals.Given as goal

abbrev pub invariant-loop-index : goal.invariant-loop-index
invariant-loop-index l = l.text ≡ l.initial.text ++ flat_map (λ g. global_line g.0 g.1) (take l.index-index l.values)
