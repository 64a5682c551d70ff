-- What the steps of linking a program leave.
use Rattle.std.specs.Prelude.{◌≡◌, ◌<◌, ◌≤◌, ◌+◌, ℕ, List, [], ◌∷◌, ◌++◌, take, slice_get, All, Some, IfSome}
use Rattle.plan_text.specs.declared.plan.Plan.{Plan}
use Rattle.plan_text.specs.declared.error.TranslateError.{TranslateError}
use Rattle.plan_text.specs.declared.error.TranslateError.TheVariants as refusal
use Rattle.translate.specs.Options.{Options}
use Rattle.translate.specs.Planned.{IsPlanned, HasCause}
use Rattle.translate.specs.Valid.{IsValid}
use Rattle.plan_link.specs.declared.program.LinkedModule.{LinkedModule}
use Rattle.plan_link.specs.declared.program.ProgramModule.{ProgramModule}
use Rattle.planner_c.specs.declared.programs.NamedModule.{NamedModule}

-- ---- plans

abbrev pub HasThisPlan : Options → NamedModule → Plan → Type 0
HasThisPlan o m plan = IsPlanned o m.bytes.now plan

abbrev pub IsNamedAs : NamedModule → ProgramModule → Type 0
IsNamedAs m p = p.name.now ≡ m.name.now

abbrev pub HasSomePlan : Options → NamedModule → Type 0
HasSomePlan o m = (plan : Plan) × IsPlanned o m.bytes.now plan

-- one plan more, which the bytes have
pub record AddsPlan (o : Options) (bytes : List ℕ) (old new : List Plan) : Type 0 where
  pub plan : Plan
  pub planned : IsPlanned o bytes plan
  pub added : new ≡ old ++ plan ∷ []

-- the modules before a position have plans, and the one there has none
pub record IsFirstRefused (o : Options) (modules : List NamedModule) (place : ℕ) (why : TranslateError) : Type 0 where
  pub refused : NamedModule
  pub at : slice_get modules place ≡ Some refused
  pub before : All (HasSomePlan o) (take place modules)
  pub cause : HasCause o refused.bytes.now why
  pub complete : IsValid o refused.bytes.now → why ≡ refusal.OutOfMemory

-- ---- numbers of exports

-- the first module has no export before its own
abbrev pub BeginAtZero : List LinkedModule → Type 0
BeginAtZero results = IfSome (slice_get results 0) (λ x. x.first_export ≡ 0)

-- the export of a number is this one of this module: it is before the first export of the next
pub record IsBetween (results : List LinkedModule) (number k e : ℕ) : Type 0 where
  pub exporter : LinkedModule
  pub next : LinkedModule
  pub at : slice_get results k ≡ Some exporter
  pub next_at : slice_get results (k + 1) ≡ Some next
  pub counted : number ≡ exporter.first_export + e
  pub before : number < next.first_export
