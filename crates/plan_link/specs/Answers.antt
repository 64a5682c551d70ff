-- What imports are given by definitions, each by itself.
use Rattle.std.specs.Prelude.{◌<◌, ⊤, ℕ, List, map, Option, Some, None}
use Rattle.wasm_types.specs.declared.entity.EntityType.{EntityType}
use Rattle.import_match.specs.declared.error.LinkError.{LinkError}
use Rattle.import_match.specs.declared.error.LinkError.TheVariants as error
use Rattle.import_match.specs.declared.error.Mismatch.{Mismatch}
use Rattle.import_match.specs.Rules.{mismatch}
use Rattle.import_match.specs.Definitions.{Definition, found}
use Rattle.plan_link.specs.declared.answer.ImportAnswer.{ImportAnswer}
use Rattle.plan_link.specs.declared.answer.ImportAnswer.TheVariants as answer

-- a definition that was found, by the first rule that it breaks
abbrev pub judged : ℕ → Option Mismatch → ImportAnswer
judged number None = answer.Given number
judged number (Some rule) = answer.Mismatch rule

-- what was found under the names of an import of this type
abbrev pub answer_by : EntityType → Option (ℕ × EntityType) → ImportAnswer
answer_by want None = answer.Missing
answer_by want (Some have) = judged have.0 (mismatch have.1 want)

abbrev pub answer_to : List Definition → Definition → ImportAnswer
answer_to ds want = answer_by want.1 (found ds want.0)

-- the answer to each import, in order
abbrev pub import_answers : List Definition → List Definition → List ImportAnswer
import_answers ds wants = map (answer_to ds) wants

-- what a linker's refusal says of one import
abbrev pub told_by : LinkError → Option ImportAnswer
told_by (error.Missing i) = Some answer.Missing
told_by (error.Mismatch i rule) = Some (answer.Mismatch rule)
told_by error.Duplicate = None
told_by error.NotHeld = None
told_by error.OutOfMemory = None

-- it is of one import, or there is no memory
abbrev pub CanCome : LinkError → Type 0
CanCome (error.Missing i) = ⊤
CanCome (error.Mismatch i rule) = ⊤
CanCome error.Duplicate = ⊥
CanCome error.NotHeld = ⊥
CanCome error.OutOfMemory = ⊤

-- a number that is given is below a count
abbrev pub IsBelow : ℕ → ImportAnswer → Type 0
IsBelow count (answer.Given number) = number < count
IsBelow count _ = ⊤
