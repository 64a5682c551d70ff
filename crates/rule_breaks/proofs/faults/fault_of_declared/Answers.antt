use Rattle.std.proofs.Common.{subst}
use Rattle.rule_spec.specs.declared.rules.Rule.TheVariants.{L1}
use Rattle.rule_spec.specs.Lists.{lists_of_module}
use Rattle.form_reader.specs.Views.{module_of}
use Rattle.rule_breaks.specs.Breaks.{IsFirstBreak}
use Rattle.rule_breaks.proofs.Lacking.{lacks_type, only_types}
use Rattle.rule_breaks.proofs.faults.fault_of_declared.Goals as goal

pub fault_of_type-requires : goal.fault_of_type-requires
fault_of_type-requires c =
    let l = lists_of_module (module_of c.args.form.now) in
    lacks_type l c.args.place.entry (subst (λ ls. IsFirstBreak L1 l ls c.args.place.entry) c.in-Types.is c.requires)

pub unreachable-requires : goal.unreachable-requires
unreachable-requires c = only_types (lists_of_module (module_of c.args.form.now)) c.args.place.entry c.args.place.list c.in_default.not-Types c.requires
