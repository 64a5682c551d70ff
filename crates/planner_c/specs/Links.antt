-- What a record reports of two modules that are linked.
use Rattle.std.specs.Prelude.{◌≡◌, ◌⊎◌, ⊤, ℕ, List, [], map}
use Rattle.plan_text.specs.declared.plan.Plan.{Plan}
use Rattle.plan_text.specs.declared.error.TranslateError.{TranslateError}
use Rattle.plan_text.specs.Refusals.{text_of_refusal}
use Rattle.import_match.specs.declared.error.Mismatch.{Mismatch}
use Rattle.import_match.specs.declared.error.Mismatch.TheVariants as rule
use Rattle.plan_link.specs.declared.answer.ImportAnswer.{ImportAnswer}
use Rattle.plan_link.specs.declared.answer.ImportAnswer.TheVariants as answer
use Rattle.import_match.specs.Lines.{text_of_mismatch}
use Rattle.plan_link.specs.Linked.{IsLinked}
use Rattle.planner_c.specs.declared.links.ImportAnswerRecord.{ImportAnswerRecord}
use Rattle.planner_c.specs.declared.links.LinkRecord.{LinkRecord}
use Rattle.planner_c.specs.declared.options.PlanOptions.{PlanOptions}
use Rattle.planner_c.specs.Calls.{HasPlan, HasRefusal}
use Rattle.planner_c.specs.Refusals.{refusal_row}

-- ---- answers

-- in the order in which the rules are checked
abbrev pub mismatch_number : Mismatch → ℕ
mismatch_number rule.Kind = 1
mismatch_number rule.FuncType = 2
mismatch_number rule.TableElement = 3
mismatch_number rule.TableIndexType = 4
mismatch_number rule.TableMin = 5
mismatch_number rule.TableMax = 6
mismatch_number rule.MemoryIndexType = 7
mismatch_number rule.MemoryShared = 8
mismatch_number rule.MemoryPage = 9
mismatch_number rule.MemoryMin = 10
mismatch_number rule.MemoryMax = 11
mismatch_number rule.GlobalMutability = 12
mismatch_number rule.GlobalType = 13
mismatch_number rule.TagType = 14

-- an answer as two numbers and a text
abbrev pub answer_row : ImportAnswer → ℕ × ℕ × List ℕ
answer_row (answer.Given number) = (0, number, [])
answer_row answer.Missing = (1, 0, [])
answer_row (answer.Mismatch broken) = (2, mismatch_number broken, text_of_mismatch broken)

abbrev pub answer_told : ImportAnswerRecord → ℕ × ℕ × List ℕ
answer_told r = (r.answer, r.detail, r.line.now)

-- the record reports what each import of the second is given by the exports of the first
pub record TellsLinks (first : Plan) (as_module : List ℕ) (second : Plan) (r : LinkRecord) : Type 0 where
  pub planned : (r.refused ≡ 0) × (r.refusal ≡ 0) × (r.refusal_detail ≡ 0) × (r.refusal_line.now ≡ [])
  pub answers : List ImportAnswer
  pub linked : IsLinked first as_module second answers
  pub told : map answer_told r.answers.now ≡ map answer_row answers

-- both have plans, of which this is reported
abbrev pub LinksPlans : PlanOptions → List ℕ → List ℕ → List ℕ → LinkRecord → Type 0
LinksPlans o exporter importer as_module r =
    HasPlan o exporter (λ first. HasPlan o importer (λ second. TellsLinks first as_module second r))

-- ---- refusals

-- the record reports the refusal of one of the modules, by its number
pub record TellsRefusalOf (which : ℕ) (e : TranslateError) (r : LinkRecord) : Type 0 where
  pub which_one : r.refused ≡ which
  pub numbers : (r.refusal, r.refusal_detail) ≡ refusal_row e
  pub line : r.refusal_line.now ≡ text_of_refusal e

-- the first is refused, or it has a plan and the second is refused
abbrev pub RefusesOne : PlanOptions → List ℕ → List ℕ → LinkRecord → Type 0
RefusesOne o exporter importer r =
    HasRefusal o exporter (λ refusal. TellsRefusalOf 1 refusal r)
    ⊎ (HasPlan o exporter (λ plan. ⊤) × HasRefusal o importer (λ refusal. TellsRefusalOf 2 refusal r))
