use Rattle.form_rules.specs.Views.{lists_of}
use Rattle.form_rules.proofs.plain.is_plain_element.Goals as goal

pub returns-then-is_plain_kind-clause-typed : goal.returns-then-is_plain_kind-clause-typed
returns-then-is_plain_kind-clause-typed c = λ answered. record {
  offset = c.is_plain_kind.ensures.typed c.if-is_plain_kind.true;
  items = c.lists_functions.ensures.typed (lists_of c.args.lists.now) answered;
}

pub returns-then-is_plain_kind-clause-refers : goal.returns-then-is_plain_kind-clause-refers
returns-then-is_plain_kind-clause-refers c = λ types answered. record {
  kind = c.is_plain_kind.ensures.refers types c.if-is_plain_kind.true;
  items = c.lists_functions.ensures.refers types answered;
}
