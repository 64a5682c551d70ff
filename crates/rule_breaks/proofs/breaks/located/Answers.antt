use Rattle.std.proofs.Common.{◌≡◌, Option, Result, sym, subst}
use Rattle.std.specs.Prelude.{IfOk}
use Rattle.rule_spec.specs.declared.rules.Rule.{Rule}
use Rattle.rule_spec.specs.Lists.{Lists}
use Rattle.form_rules.specs.Views.{lists_of}
use Rattle.rule_breaks.specs.declared.lists.Break.{Break}
use Rattle.rule_breaks.specs.Breaks.{Locates}
use Rattle.rule_breaks.proofs.breaks.located.Goals as goal

-- a result for the rule of a match arm is one for the rule that was equal-result
equal-result : {E : Type 0} (l : Lists) {rule arm : Rule} (result : Result (Option Break) E) → rule ≡ arm → IfOk result (Locates arm l) → IfOk result (Locates rule l)
equal-result l result is = subst (λ r. IfOk result (Locates r l)) (sym is)

pub returns-in-L2 : goal.returns-in-L2
returns-in-L2 c = equal-result (lists_of c.args.lists.now) c.break_of_types.result c.in-L2.is c.break_of_types.ensures

pub returns-in-L3 : goal.returns-in-L3
returns-in-L3 c = equal-result (lists_of c.args.lists.now) c.break_of_counts.result c.in-L3.is c.break_of_counts.ensures

pub returns-in-L4 : goal.returns-in-L4
returns-in-L4 c = equal-result (lists_of c.args.lists.now) c.break_of_limits.result c.in-L4.is c.break_of_limits.ensures

pub returns-in-L5 : goal.returns-in-L5
returns-in-L5 c = equal-result (lists_of c.args.lists.now) c.break_of_tables.result c.in-L5.is c.break_of_tables.ensures

pub returns-in-L6 : goal.returns-in-L6
returns-in-L6 c = equal-result (lists_of c.args.lists.now) c.break_of_expressions.result c.in-L6.is c.break_of_expressions.ensures

pub returns-in-L7 : goal.returns-in-L7
returns-in-L7 c = equal-result (lists_of c.args.lists.now) c.break_of_exports.result c.in-L7.is c.break_of_exports.ensures

pub returns-in-L8 : goal.returns-in-L8
returns-in-L8 c = equal-result (lists_of c.args.lists.now) c.break_of_starts.result c.in-L8.is c.break_of_starts.ensures

pub returns-in-L9 : goal.returns-in-L9
returns-in-L9 c = equal-result (lists_of c.args.lists.now) c.break_of_segments.result c.in-L9.is c.break_of_segments.ensures
