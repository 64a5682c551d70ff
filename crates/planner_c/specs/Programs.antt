-- What a record reports of a program: modules that are linked in order, each under a name.
use Rattle.std.specs.Prelude.{◌≡◌, ◌<◌, ◌≤◌, ◌+◌, ◌⊎◌, ⊤, ℕ, List, [], ◌∷◌, length, map, take, slice_get, All, Some}
use Rattle.std.specs.List.{AllZip, flat_map, sum_by}
use Rattle.std.specs.Str.{IsUtf8}
use Rattle.plan_text.specs.declared.error.TranslateError.{TranslateError}
use Rattle.plan_text.specs.Refusals.{text_of_refusal}
use Rattle.translate.specs.Planned.{IsPlanned}
use Rattle.translate.specs.Valid.{IsValid}
use Rattle.wasm_index.specs.Index.{number_of}
use Rattle.plan_link.specs.declared.answer.ImportAnswer.{ImportAnswer}
use Rattle.plan_link.specs.declared.answer.ImportAnswer.TheVariants as answer
use Rattle.plan_link.specs.declared.program.LinkedModule.{LinkedModule}
use Rattle.plan_link.specs.declared.program.ProgramModule.{ProgramModule}
use Rattle.plan_link.specs.declared.program_error.ProgramError.{ProgramError}
use Rattle.plan_link.specs.declared.program_error.ProgramError.TheVariants as error
use Rattle.import_match.specs.Lines.{text_of_mismatch}
use Rattle.plan_link.specs.Program.{IsProgram, ShareIndices, IsDuplicate, IsCrowded, count_types, capacity}
use Rattle.planner_c.specs.declared.options.PlanOptions.{PlanOptions}
use Rattle.planner_c.specs.declared.programs.LinkedModuleRecord.{LinkedModuleRecord}
use Rattle.planner_c.specs.declared.programs.NamedModule.{NamedModule}
use Rattle.planner_c.specs.declared.programs.ProgramAnswerRecord.{ProgramAnswerRecord}
use Rattle.planner_c.specs.declared.programs.ProgramRecord.{ProgramRecord}
use Rattle.planner_c.specs.Calls.{HasPlan, HasRefusal, options_for}
use Rattle.planner_c.specs.Links.{mismatch_number}
use Rattle.planner_c.specs.Refusals.{refusal_row}

-- ---- modules

abbrev pub HasName : NamedModule → Type 0
HasName m = IsUtf8 m.name.now

abbrev pub IsValidModule : PlanOptions → NamedModule → Type 0
IsValidModule o m = IsValid (options_for o) m.bytes.now

-- the plan of a module, under the name of the module
abbrev pub IsMemberOf : PlanOptions → NamedModule → ProgramModule → Type 0
IsMemberOf o m p = (p.name.now ≡ m.name.now) × IsPlanned (options_for o) m.bytes.now p.plan.now

-- the modules have plans, and of the program of these a fact holds
pub record HasProgram (o : PlanOptions) (modules : List NamedModule) (P : List ProgramModule → Type 0) : Type 0 where
  pub program : List ProgramModule
  pub members : AllZip (IsMemberOf o) modules program
  pub holds : P program

-- ---- answers

-- how many exports a module has
abbrev pub export_count : ProgramModule → ℕ
export_count p = length p.plan.now.translation.module.exports.entries

-- the export of a number, where all modules are counted in order, is this one of this module
pub record IsExportOf (program : List ProgramModule) (number k e : ℕ) : Type 0 where
  pub exporter : ProgramModule
  pub at : slice_get program k ≡ Some exporter
  pub has : e < export_count exporter
  pub counted : number ≡ sum_by export_count (take k program) + e

-- an answer as two numbers and a text
abbrev pub answer_kind : ImportAnswer → ℕ × ℕ × List ℕ
answer_kind (answer.Given number) = (0, 0, [])
answer_kind answer.Missing = (1, 0, [])
answer_kind (answer.Mismatch broken) = (2, mismatch_number broken, text_of_mismatch broken)

-- a module and an export of it, where one is given; else zeros
abbrev pub IsGivenBy : (ℕ → ℕ → ℕ → Type 0) → ImportAnswer → ℕ → ℕ → Type 0
IsGivenBy Is (answer.Given number) k e = Is number k e
IsGivenBy Is _ k e = (k ≡ 0) × (e ≡ 0)

-- the record reports an answer, where it is known which module has the export of a number
pub record TellsAnswer (Is : ℕ → ℕ → ℕ → Type 0) (a : ImportAnswer) (r : ProgramAnswerRecord) : Type 0 where
  pub kind : (r.answer, r.rule, r.line.now) ≡ answer_kind a
  pub given : IsGivenBy Is a r.module r.export_number

-- ---- tables

-- a module whose types and answers begin behind so many others
abbrev pub module_row : ℕ → ℕ → LinkedModule → LinkedModuleRecord
module_row types answers x = record {
  types = record { begin = types; len = length x.types.items };
  answers = record { begin = answers; len = length x.answers.items };
  first_export = x.first_export;
}

-- modules whose types and answers are end to end
abbrev pub module_rows : ℕ → ℕ → List LinkedModule → List LinkedModuleRecord
module_rows types answers [] = []
module_rows types answers (x ∷ xs) =
    module_row types answers x ∷ module_rows (types + length x.types.items) (answers + length x.answers.items) xs

abbrev pub all_types : List LinkedModule → List ℕ
all_types results = flat_map (λ (x : LinkedModule). map number_of x.types.items) results

abbrev pub all_answers : List LinkedModule → List ImportAnswer
all_answers results = flat_map (λ (x : LinkedModule). x.answers.items) results

-- the lists of the record are what the linker found
pub record TellsFound (Is : ℕ → ℕ → ℕ → Type 0) (results : List LinkedModule) (r : ProgramRecord) : Type 0 where
  pub planned : (r.cause ≡ 0) × (r.refused ≡ 0) × (r.refusal ≡ 0) × (r.refusal_detail ≡ 0) × (r.refusal_line.now ≡ [])
  pub modules : r.modules.now ≡ module_rows 0 0 results
  pub types : r.types.now ≡ all_types results
  pub answers : AllZip (TellsAnswer Is) (all_answers results) r.answers.now

-- ---- a program is linked

-- its types fit into a registry, and no two exports have the same two names
pub record HasNoFault (program : List ProgramModule) : Type 0 where
  pub fits : count_types program ≤ capacity
  pub once : (k : ℕ) → IsDuplicate program k → ⊥

-- the record reports the program
pub record TellsProgram (program : List ProgramModule) (r : ProgramRecord) : Type 0 where
  pub results : List LinkedModule
  pub linked : IsProgram program results
  -- two types have one index exactly where they are equal
  pub shared : ShareIndices program results
  pub told : TellsFound (IsExportOf program) results r
  pub right : HasNoFault program

abbrev pub LinksProgram : PlanOptions → List NamedModule → ProgramRecord → Type 0
LinksProgram o modules r = HasProgram o modules (λ program. TellsProgram program r)

-- ---- a program is refused

-- the record reports the refusal of the module at a position
pub record TellsModule (place : ℕ) (e : TranslateError) (r : ProgramRecord) : Type 0 where
  pub cause : (r.cause ≡ 1) × (r.refused ≡ place)
  pub numbers : (r.refusal, r.refusal_detail) ≡ refusal_row e
  pub line : r.refusal_line.now ≡ text_of_refusal e

-- the record reports a cause that is of the program at a position
pub record TellsCause (cause place : ℕ) (r : ProgramRecord) : Type 0 where
  pub cause_is : (r.cause ≡ cause) × (r.refused ≡ place)
  pub none : (r.refusal ≡ 0) × (r.refusal_detail ≡ 0) × (r.refusal_line.now ≡ [])

-- what the record reports of an error of the linker
abbrev pub TellsError : ProgramError → ProgramRecord → Type 0
TellsError (error.Duplicate k) r = TellsCause 2 k r
TellsError (error.TooManyTypes k) r = TellsCause 3 k r
TellsError error.OutOfMemory r = ⊥

-- the modules before a position have plans, and the one there is refused
pub record RefusesModule (o : PlanOptions) (modules : List NamedModule) (r : ProgramRecord) : Type 0 where
  pub refused : NamedModule
  pub at : slice_get modules r.refused ≡ Some refused
  pub before : All (λ (m : NamedModule). HasPlan o m.bytes.now (λ plan. ⊤)) (take r.refused modules)
  pub told : HasRefusal o refused.bytes.now (λ e. TellsModule r.refused e r)

-- the types fit into a registry, and an export repeats two names; or the types do not fit. At the
-- first such module
abbrev pub TellsFault : List ProgramModule → ProgramRecord → Type 0
TellsFault program r =
    (TellsCause 2 r.refused r × (count_types program ≤ capacity) × IsDuplicate program r.refused)
    ⊎ (TellsCause 3 r.refused r × IsCrowded program r.refused)

abbrev pub RefusesProgram : PlanOptions → List NamedModule → ProgramRecord → Type 0
RefusesProgram o modules r = RefusesModule o modules r ⊎ HasProgram o modules (λ program. TellsFault program r)
