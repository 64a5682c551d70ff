use Rattle.std.proofs.Common.{◌≡◌, ◌++◌}
use Rattle.std.specs.List.{flat_map}
use Rattle.plan_lines.specs.Numbers.{keyed_lines}
use Rattle.plan_lines.specs.LayoutLines.{layout_lines}
use Rattle.plan_lines.proofs.layout_lines.append_layouts.Given as goal

abbrev pub invariant-loop-index : goal.invariant-loop-index
invariant-loop-index l = l.text ++ flat_map (λ p. layout_lines p.0 p.1) l.index-iterator ≡ l.initial.text ++ keyed_lines layout_lines l.layouts
