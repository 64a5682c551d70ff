use Rattle.std.proofs.Common.{append_assoc}
use Rattle.plan_lines.proofs.expressions.append_expression_line.Goals as goal

-- the pieces, one after another, are the line
pub returns : goal.returns
returns c =
    let written = simp (
      c.in_ok-append_named.ensures,
      c.in_ok-push_byte.ensures,
      c.in_ok-append_expression.ensures,
      append_assoc,
    ) at c.push_byte-2.ensures in
    simp append_assoc written
