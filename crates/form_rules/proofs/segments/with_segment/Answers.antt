use Rattle.std.proofs.Common.{length}
use Rattle.form_rules.specs.Views.{lists_of}
use Rattle.form_rules.proofs.PlainExpressions.{also}
use Rattle.form_rules.proofs.segments.with_segment.Goals as goal

pub returns-then-is_plain_segment : goal.returns-then-is_plain_segment
returns-then-is_plain_segment c =
    let l = lists_of c.args.typing.now.lists.now in
    let yes = c.if-is_plain_segment.true in
    record {
      count = c.in_ok-count.ensures;
      typed = also (c.is_plain_segment.ensures.typed yes);
      in_range = also (c.is_plain_segment.ensures.in_range yes);
      refer = also (c.is_plain_segment.ensures.refers (length l.types) yes);
    }
