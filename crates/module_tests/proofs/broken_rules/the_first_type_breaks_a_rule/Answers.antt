use Rattle.std.proofs.Common.{Err, ap}
use Rattle.module_tests.proofs.broken_rules.the_first_type_breaks_a_rule.Goals as goal

pub locate_break-requires : goal.locate_break-requires
locate_break-requires g c = c.in-Err-Invalid.ensures.first c.in-Err-Invalid.rule (ap Err c.in-Err-Invalid.field-0-is)
