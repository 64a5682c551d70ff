-- What a run leaves, by its status.
use Rattle.std.specs.Prelude.{◌≡◌, ◌≢◌, ◌⊎◌, ℕ, ◌^◌, List, length, Option, None, Some, IsSomeAnd}
use Rattle.devices.specs.Device.{NothingLeft, AppendsFront, AppendsPart}
use Rattle.module_generator.specs.Generated.{generated_module}
use Rattle.command_words.specs.declared.command.Command.{Command}
use Rattle.command_words.specs.Commands.{Names}
use Rattle.plan_text.specs.declared.plan.Plan.{Plan}
use Rattle.plan_text.specs.declared.error.TranslateError.{TranslateError}
use Rattle.plan_text.specs.declared.error.TranslateError.TheVariants.{TooLarge, OutOfMemory}
use Rattle.plan_text.specs.PlanText.{text_of_plan}
use Rattle.plan_text.specs.Summary.{summary_of}
use Rattle.plan_text.specs.Refusals.{text_of_refusal}
use Rattle.translate.specs.Options.{Options, options_of}
use Rattle.translate.specs.Planned.{IsPlanned, HasCause}
use Rattle.translate.specs.Valid.{IsValid}

-- the words name a command, of which a fact holds
pub record Commands (words : List (List ℕ)) (P : Command → Type 0) : Type 0 where
  pub command : Command
  pub named : Names words command
  pub holds : P command

-- ---- the bytes

-- the input of a command: what a source reports, or the module that is made in place of reading one
abbrev pub IsInput : Option ℕ → Option (List ℕ) → List ℕ → Type 0
IsInput None told bytes = told ≡ Some bytes
IsInput (Some n) told bytes = bytes ≡ generated_module n

-- the source was read to its end, or the module was made
abbrev pub HasWholeInput : Option ℕ → List ℕ → Option (List ℕ) → Type 0
HasWholeInput None bytes left = NothingLeft left
HasWholeInput (Some n) bytes left = bytes ≡ generated_module n

-- the same, or reading reached 2 ^ 30 bytes
abbrev pub HasEnoughInput : Option ℕ → List ℕ → Option (List ℕ) → Type 0
HasEnoughInput None bytes left = NothingLeft left ⊎ (length bytes ≡ 2 ^ 30)
HasEnoughInput (Some n) bytes left = bytes ≡ generated_module n

-- ---- the text

-- what is written of a plan: its text, or the summary of a module that was made
abbrev pub text_for : Option ℕ → List ℕ → Plan → List ℕ
text_for None bytes plan = text_of_plan plan
text_for (Some n) bytes plan = summary_of n (length bytes) plan

-- ---- statuses

-- the refusal is not that memory ran out, and has its cause in the bytes, which are not valid; of
-- 2 ^ 30 bytes it is that they are too many
pub record IsRefused (o : Options) (bytes : List ℕ) (refusal : TranslateError) : Type 0 where
  pub not_memory : refusal ≢ OutOfMemory
  pub cause : HasCause o bytes refusal
  pub not_valid : ¬ IsValid o bytes
  pub long : length bytes ≡ 2 ^ 30 → refusal ≡ TooLarge

module _ (bytes : List ℕ) (left : Option (List ℕ)) (plan : Option Plan) (refusal : Option TranslateError) (before after : Option (List ℕ)) where
  -- status 0
  pub record IsSuccess (c : Command) : Type 0 where
    -- the bytes spell a module that keeps the listed rules, and the plan is its plan
    pub planned : IsSomeAnd plan (IsPlanned (options_of c) bytes)
    pub no_refusal : refusal ≡ None
    pub whole : HasWholeInput c.generate bytes left
    -- the sink gained the text
    pub printed : IsSomeAnd plan (λ p. AppendsFront before (text_for c.generate bytes p) after)

  -- status 1
  pub record IsRefusal (c : Command) : Type 0 where
    pub no_plan : plan ≡ None
    pub refused : IsSomeAnd refusal (IsRefused (options_of c) bytes)
    pub enough : HasEnoughInput c.generate bytes left
    -- the sink gained the line of the refusal
    pub printed : IsSomeAnd refusal (λ e. AppendsFront before (text_of_refusal e) after)

-- status 4: the sink gained a part of the text of the plan, or of the line of the refusal,
-- whichever is kept
abbrev pub IsCutShort : List ℕ → Option (List ℕ) → Option Plan → Option TranslateError → Option (List ℕ) → Option (List ℕ) → Command → Type 0
IsCutShort bytes left (Some plan) None before after c =
    HasWholeInput c.generate bytes left × IsPlanned (options_of c) bytes plan × AppendsPart before (text_for c.generate bytes plan) after
IsCutShort bytes left None (Some e) before after c =
    HasEnoughInput c.generate bytes left × IsRefused (options_of c) bytes e × AppendsPart before (text_of_refusal e) after
IsCutShort bytes left (Some plan) (Some e) before after c = ⊥
IsCutShort bytes left None None before after c = ⊥

-- the statuses of a run that has its input
abbrev pub IsAnswer : ℕ → Type 0
IsAnswer status = (status ≡ 0) ⊎ (status ≡ 1) ⊎ (status ≡ 4) ⊎ (status ≡ 5)
