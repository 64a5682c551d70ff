use Rattle.std.proofs.Common.{length}
use Rattle.form_rules.specs.Views.{lists_of}
use Rattle.form_rules.proofs.PlainExpressions.{also}
use Rattle.form_rules.proofs.elements.with_element.Goals as goal

pub returns-then-before : goal.returns-then-before
returns-then-before c =
    let l = lists_of c.args.typing.now.lists.now in
    let yes = c.if-is_plain_element.true in
    record {
      typed = also (c.is_plain_element.ensures.typed yes);
      in_range = (
        λ kept. (c.if-before.true, record { table = c.is_plain_element.ensures.in_range yes; items = c.names_functions.ensures.0 kept }),
        λ both. c.names_functions.ensures.1 both.1.items,
      );
      refer = also (c.is_plain_element.ensures.refers (length l.types) yes);
    }

pub returns-else-before : goal.returns-else-before
returns-else-before c =
    let l = lists_of c.args.typing.now.lists.now in
    let yes = c.if-is_plain_element.true in
    record {
      typed = also (c.is_plain_element.ensures.typed yes);
      in_range = (λ kept. absurd (cc), λ both. both.0);
      refer = also (c.is_plain_element.ensures.refers (length l.types) yes);
    }
