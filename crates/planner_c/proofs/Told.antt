-- What the call that links two modules reports.
use Rattle.std.proofs.Common.{◌≡◌, List, ℕ, inl, inr, subst}
use Rattle.std.specs.Prelude.{⊤}
use Rattle.command_words.specs.declared.command.Command.{Command}
use Rattle.plan_text.specs.declared.plan.Plan.{Plan}
use Rattle.plan_text.specs.declared.error.TranslateError.{TranslateError}
use Rattle.translate.specs.Options.{options_of}
use Rattle.translate.specs.Planned.{IsPlanned, HasCause}
use Rattle.planner_c.specs.declared.links.LinkRecord.{LinkRecord}
use Rattle.planner_c.specs.declared.options.PlanOptions.{PlanOptions}
use Rattle.planner_c.specs.Calls.{HasPlan, HasRefusal, command_for}
use Rattle.planner_c.specs.Links.{TellsLinks, LinksPlans, TellsRefusalOf, RefusesOne}

module _ (o : PlanOptions) (d : Command) (is : d ≡ command_for o) where
  has-plan : (bytes : List ℕ) (plan : Plan) (P : Plan → Type 0) → IsPlanned (options_of d) bytes plan → P plan → HasPlan o bytes P
  has-plan bytes plan P planned holds = record {
    plan = plan;
    planned = subst (λ (c : Command). IsPlanned (options_of c) bytes plan) is planned;
    holds = holds;
  }

  has-refusal : (bytes : List ℕ) (refusal : TranslateError) (P : TranslateError → Type 0) → HasCause (options_of d) bytes refusal → P refusal
      → HasRefusal o bytes P
  has-refusal bytes refusal P cause holds = record {
    refusal = refusal;
    cause = subst (λ (c : Command). HasCause (options_of c) bytes refusal) is cause;
    holds = holds;
  }

  module _ (exporter importer : List ℕ) (r : LinkRecord) where
    pub both-planned : (as_module name : List ℕ) (first second : Plan) → name ≡ as_module → IsPlanned (options_of d) exporter first
        → IsPlanned (options_of d) importer second → TellsLinks first name second r → LinksPlans o exporter importer as_module r
    both-planned as_module name first second same one other told =
        has-plan exporter first (λ (p : Plan). HasPlan o importer (λ (q : Plan). TellsLinks p as_module q r)) one
        (has-plan importer second (λ (q : Plan). TellsLinks first as_module q r) other
        (subst (λ (n : List ℕ). TellsLinks first n second r) same told))

    pub first-refused : (e : TranslateError) → HasCause (options_of d) exporter e → TellsRefusalOf 1 e r → RefusesOne o exporter importer r
    first-refused e cause told = inl (has-refusal exporter e (λ (x : TranslateError). TellsRefusalOf 1 x r) cause told)

    pub second-refused : (first : Plan) (e : TranslateError) → IsPlanned (options_of d) exporter first → HasCause (options_of d) importer e
        → TellsRefusalOf 2 e r → RefusesOne o exporter importer r
    second-refused first e one cause told =
        inr (has-plan exporter first (λ (p : Plan). ⊤) one tt, has-refusal importer e (λ (x : TranslateError). TellsRefusalOf 2 x r) cause told)
