use Rattle.std.proofs.Common.{sym, subst}
use Rattle.std.specs.Prelude.{IfOk}
use Rattle.rule_spec.specs.declared.rules.Rule.{Rule}
use Rattle.rule_spec.specs.declared.rules.Rule.TheVariants.{L1}
use Rattle.rule_spec.specs.Lists.{lists_of_module}
use Rattle.form_reader.specs.Views.{module_of}
use Rattle.rule_breaks.specs.Breaks.{Locates}
use Rattle.rule_breaks.proofs.Located.{later}
use Rattle.rule_breaks.proofs.forms.located_in_form.Goals as goal

pub returns-in-L1 : goal.returns-in-L1
returns-in-L1 c =
    subst (λ (r : Rule). IfOk c.break_of_declared.result (Locates r (lists_of_module (module_of c.args.form.now)))) (sym c.in-L1.is) c.break_of_declared.ensures

pub break_of_lists-requires : goal.break_of_lists-requires
break_of_lists-requires c = c.requires L1 (later c.args.rule c.in_default.not-L1)
