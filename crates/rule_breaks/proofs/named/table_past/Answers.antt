use Rattle.std.proofs.Common.{refl}
use Rattle.rule_breaks.proofs.FirstPast.{none_past, past_initialiser}
use Rattle.rule_breaks.proofs.named.table_past.Goals as goal

pub returns-in-Some-init : goal.returns-in-Some-init
returns-in-Some-init c =
    past_initialiser c.args.bound _ c.args.table.now.init _ _ c.in-Some-init.is (none_past _ _ _ _ refl c.in_default.is c.heap_past.ensures) c.expression_past.ensures
