use Rattle.std.proofs.Common.{refl}
use Rattle.rule_breaks.proofs.FirstPast.{none_past, past_right}
use Rattle.rule_breaks.proofs.named.global_past.Goals as goal

pub returns : goal.returns
returns c = past_right c.args.bound _ _ c.expression_past.result (none_past _ _ _ _ refl c.in_default.is c.past.ensures) c.expression_past.ensures
