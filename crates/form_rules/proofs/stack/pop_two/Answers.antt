use Rattle.std.proofs.Common.{[], ◌∷◌}
use Rattle.form_rules.proofs.StackLemmas.{Popped-true, Popped-then, Popped-upper}
use Rattle.form_rules.proofs.stack.pop_two.Goals as goal

pub returns-then-pop : goal.returns-then-pop
returns-then-pop c =
    Popped-then (c.args.first ∷ []) (c.args.second ∷ []) c.args.stack.now.items c.pop.new.stack.items c.pop-then-pop.new.stack.items
    c.pop-then-pop.result (Popped-true (c.args.second ∷ []) c.args.stack.now.items c.pop.new.stack.items c.pop.result c.if-pop.true c.pop.ensures) c.pop-then-pop.ensures

pub returns-else-pop : goal.returns-else-pop
returns-else-pop c =
    Popped-upper (c.args.first ∷ []) (c.args.second ∷ []) c.args.stack.now.items c.pop.new.stack.items c.pop.result c.if-pop.false c.pop.ensures
