use Rattle.std.proofs.Common.{append_assoc}
use Rattle.plan_lines.specs.LayoutLines.{array_layout_line}
use Rattle.plan_lines.proofs.layout_lines.append_array_layout.Goals as goal

-- the pieces, one after another, are the line
pub returns : goal.returns
unfolding array_layout_line
returns c =
    let written = simp (
      c.as_u32.ensures,
      c.in_ok-append_named.ensures,
      c.in_ok-append_named-2.ensures,
      c.in_ok-append_named-3.ensures,
      c.in_ok-append_named-4.ensures,
      append_assoc,
    ) at c.append_refs.ensures in
    simp append_assoc written
