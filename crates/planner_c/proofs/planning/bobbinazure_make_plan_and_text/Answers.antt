use Rattle.std.proofs.Common.{◌∙◌, refl, subst, is_some, ap, arith}
use Rattle.command_words.specs.declared.command.Command.{Command}
use Rattle.translate.specs.Options.{options_of}
use Rattle.translate.specs.Planned.{IsPlanned}
use Rattle.planner_c.proofs.planning.bobbinazure_make_plan_and_text.Goals as goal

pub returns-in-Ok-fill_record-clause-planned : goal.returns-in-Ok-fill_record-clause-planned
returns-in-Ok-fill_record-clause-planned c = λ success. record {
  plan = c.in-Ok.plan;
  planned = subst (λ (d : Command). IsPlanned (options_of d) c.args.bytes.now c.in-Ok.plan) c.in-Some.ensures.command c.in-Ok.ensures.planned;
  holds = (c.in-Ok-fill_record.ensures, (c.leak.ensures.value ∙ c.in-Ok.ensures.text, refl));
}

pub returns-in-Ok-fill_record-clause-usage : goal.returns-in-Ok-fill_record-clause-usage
returns-in-Ok-fill_record-clause-usage c = (
  λ usage. absurd (omega (arith, usage)),
  λ wrong. absurd (wrong (c.command_of.ensures.right (ap is_some c.in-Some.is))),
)
