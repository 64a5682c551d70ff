use Rattle.std.proofs.Common.{◌≡◌, ◌++◌}
use Rattle.std.specs.List.{flat_map}
use Rattle.plan_lines.specs.Numbers.{keyed_lines}
use Rattle.plan_lines.specs.TableLines.{passive_element_line}
use Rattle.plan_lines.proofs.table_lines.append_passive_elements.Given as goal

abbrev pub invariant-loop-index : goal.invariant-loop-index
invariant-loop-index l = l.text ++ flat_map (λ p. passive_element_line p.0 p.1) l.index-iterator
    ≡ l.initial.text ++ keyed_lines passive_element_line l.elements
