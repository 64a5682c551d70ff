-- What the call that links a program reports.
use Rattle.std.proofs.Common.{◌≡◌, List, [], ◌∷◌, ℕ, map, take, slice_get, All, Some, inl, inr, sym, ap, subst}
use Rattle.std.specs.Prelude.{⊤}
use Rattle.std.specs.List.{AllZip}
use Rattle.std.proofs.lemmas.List.Elements.{All-nil, All-cons, All-weaker}
use Rattle.command_words.specs.declared.command.Command.{Command}
use Rattle.plan_text.specs.declared.plan.Plan.{Plan}
use Rattle.plan_text.specs.declared.error.TranslateError.{TranslateError}
use Rattle.translate.specs.Options.{Options, options_of}
use Rattle.translate.specs.Planned.{IsPlanned, HasCause}
use Rattle.plan_link.specs.declared.program.ProgramModule.{ProgramModule}
use Rattle.plan_link.specs.Program.{IsPlannedModule}
use Rattle.planner_c.specs.declared.options.PlanOptions.{PlanOptions}
use Rattle.planner_c.specs.declared.programs.NamedModule.{NamedModule}
use Rattle.planner_c.specs.declared.programs.ProgramRecord.{ProgramRecord}
use Rattle.planner_c.specs.Calls.{HasPlan, HasRefusal, command_for, options_for}
use Rattle.planner_c.specs.Members.{HasThisPlan, HasSomePlan, IsNamedAs, IsFirstRefused}
use Rattle.planner_c.specs.Programs.{IsMemberOf, HasProgram, TellsModule, RefusesModule}

-- ---- members

abbrev pub plan_of : ProgramModule → Plan
plan_of p = p.plan.now

-- the plans of modules, each under the name of its module
abbrev IsMember : Options → NamedModule → ProgramModule → Type 0
IsMember o m p = (p.name.now ≡ m.name.now) × IsPlanned o m.bytes.now p.plan.now

both : (o : Options) (ms : List NamedModule) (ps : List ProgramModule) → AllZip IsNamedAs ms ps → AllZip (HasThisPlan o) ms (map plan_of ps)
    → AllZip (IsMember o) ms ps
both o [] [] named planned = tt
both o [] (p ∷ ps) named planned = absurd named
both o (m ∷ ms) [] named planned = absurd named
both o (m ∷ ms) (p ∷ ps) named planned = ((named.0, planned.0), both o ms ps named.1 planned.1)

planned-one : (o : Options) (ms : List NamedModule) (ps : List ProgramModule) → AllZip (IsMember o) ms ps → All IsPlannedModule ps
planned-one o [] [] members = All-nil IsPlannedModule
planned-one o [] (p ∷ ps) members = absurd members
planned-one o (m ∷ ms) [] members = absurd members
planned-one o (m ∷ ms) (p ∷ ps) members =
    All-cons IsPlannedModule p ps (record { options = o; bytes = m.bytes.now; planned = members.0.1 }) (planned-one o ms ps members.1)

module _ (o : PlanOptions) (d : Command) (is : d ≡ command_for o) (ms : List NamedModule) where
  module _ (plans : List Plan) (ps : List ProgramModule) (planned : AllZip (HasThisPlan (options_of d)) ms plans) (named : AllZip IsNamedAs ms ps)
      (same : map plan_of ps ≡ plans) where
    members : AllZip (IsMember (options_of d)) ms ps
    members = both (options_of d) ms ps named (subst (AllZip (HasThisPlan (options_of d)) ms) (sym same) planned)

    pub all-planned : All IsPlannedModule ps
    all-planned = planned-one (options_of d) ms ps members

    pub all-members : AllZip (IsMemberOf o) ms ps
    all-members = subst (λ (c : Command). AllZip (IsMember (options_of c)) ms ps) is members

    pub has-program : (P : List ProgramModule → Type 0) → P ps → HasProgram o ms P
    has-program P holds = record { program = ps; members = all-members; holds = holds }

  -- ---- a module is refused

  pub refuses : (place : ℕ) (e : TranslateError) (r : ProgramRecord) → IsFirstRefused (options_of d) ms place e → TellsModule place e r → RefusesModule o ms r
  refuses place e r first told =
      let at : place ≡ r.refused = sym told.cause.1 in
      record {
        refused = first.refused;
        at = subst (λ (k : ℕ). slice_get ms k ≡ Some first.refused) at first.at;
        before = subst (λ (k : ℕ). All (λ (m : NamedModule). HasPlan o m.bytes.now (λ plan. ⊤)) (take k ms)) at
            (All-weaker (HasSomePlan (options_of d)) (λ (m : NamedModule). HasPlan o m.bytes.now (λ plan. ⊤))
            (λ m some. record {
              plan = some.0;
              planned = subst (λ (c : Command). IsPlanned (options_of c) m.bytes.now some.0) is some.1;
              holds = tt;
            }) (take place ms) first.before);
        told = record {
          refusal = e;
          cause = subst (λ (c : Command). HasCause (options_of c) first.refused.bytes.now e) is first.cause;
          holds = subst (λ (k : ℕ). TellsModule k e r) at told;
        };
      }
