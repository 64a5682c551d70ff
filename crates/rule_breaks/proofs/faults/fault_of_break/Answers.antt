use Rattle.std.proofs.Common.{subst}
use Rattle.rule_spec.specs.declared.rules.Rule.{Rule}
use Rattle.rule_spec.specs.declared.rules.Rule.TheVariants.{L1}
use Rattle.rule_spec.specs.Lists.{lists_of_module}
use Rattle.form_reader.specs.Views.{module_of}
use Rattle.rule_breaks.specs.Breaks.{IsFirstBreak}
use Rattle.rule_breaks.proofs.Located.{later}
use Rattle.rule_breaks.proofs.faults.fault_of_break.Goals as goal

pub fault_of_declared-requires : goal.fault_of_declared-requires
fault_of_declared-requires c =
    subst (λ (r : Rule). IsFirstBreak r (lists_of_module (module_of c.args.form.now)) c.args.place.list c.args.place.entry) c.in-L1.is c.requires.first

pub fault_of_lists-requires-clause-well : goal.fault_of_lists-requires-clause-well
fault_of_lists-requires-clause-well c = c.requires.before L1 (later c.args.rule c.in_default.not-L1)
