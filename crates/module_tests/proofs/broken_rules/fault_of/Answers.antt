use Rattle.std.proofs.Common.{Err, ap}
use Rattle.module_tests.proofs.broken_rules.fault_of.Goals as goal

pub locate_break-requires : goal.locate_break-requires
locate_break-requires c = c.in-Err-Invalid.ensures.first c.in-Err-Invalid.rule (ap Err c.in-Err-Invalid.field-0-is)

pub fault_of_break-requires-clause-before : goal.fault_of_break-requires-clause-before
fault_of_break-requires-clause-before c = c.in-Err-Invalid.ensures.first c.in-Err-Invalid.rule (ap Err c.in-Err-Invalid.field-0-is)
