use Rattle.std.proofs.Common.{map, refl, sym, subst}
use Rattle.std.specs.List.{flat_map}
use Rattle.form_reader.specs.Views.{expression_of, items_of}
use Rattle.rule_breaks.specs.Named.{expression_types, item_types}
use Rattle.rule_breaks.specs.Past.{FindsPast}
use Rattle.rule_breaks.proofs.FirstPast.{none_past, past_right}
use Rattle.rule_breaks.proofs.named.items_past.Goals as goal

pub returns-in_default : goal.returns-in_default
returns-in_default c =
    subst (λ k. FindsPast c.args.bound (item_types (items_of k)) c.expressions_past.result) (sym c.in-Expressions.is)
    (past_right c.args.bound _ _ c.expressions_past.result (none_past _ _ _ _ refl c.in_default.is c.heap_past.ensures)
    (subst (λ es. FindsPast c.args.bound (flat_map expression_types (map expression_of es)) c.expressions_past.result) c.deref.ensures.value c.expressions_past.ensures))
