-- What the program's status says of the command that its words name, of what its reader gives, and
-- of what its writer gains.
use Rattle.std.specs.Prelude.{◌≡◌, ◌⊎◌, ◌^◌, ⊤, ℕ, List, take, Option, None, Some, option_map}
use Rattle.devices.specs.Device.{AppendsFront, AppendsPart}
use Rattle.module_generator.specs.Generated.{generated_module}
use Rattle.command_words.specs.declared.command.Command.{Command}
use Rattle.plan_text.specs.declared.plan.Plan.{Plan}
use Rattle.plan_text.specs.declared.error.TranslateError.{TranslateError}
use Rattle.plan_text.specs.Refusals.{text_of_refusal}
use Rattle.translate.specs.Options.{options_of}
use Rattle.translate.specs.Planned.{IsPlanned}
use Rattle.translate.specs.Runs.{IsRefused, text_for}

-- the input of a command: all that the reader reports, or any bytes where it reports nothing; or
-- the module that is made in place of reading
abbrev pub IsGiven : Option ℕ → Option (List ℕ) → List ℕ → Type 0
IsGiven None (Some told) bytes = bytes ≡ told
IsGiven None None bytes = ⊤
IsGiven (Some n) told bytes = bytes ≡ generated_module n

-- the first 2 ^ 30 bytes of what is reported, or all where they are no more
abbrev pub front_of : Option (List ℕ) → Option (List ℕ)
front_of told = option_map (take (2 ^ 30)) told

-- the input has a plan, whose text, or the summary of a module that was made, is printed
pub record HasPlanned (told : Option (List ℕ)) (Printed : List ℕ → Type 0) (c : Command) : Type 0 where
  pub bytes : List ℕ
  pub input : IsGiven c.generate told bytes
  pub plan : Plan
  pub planned : IsPlanned (options_of c) bytes plan
  pub printed : Printed (text_for c.generate bytes plan)

-- the input, or its front, is not valid, and is refused with its cause, whose line is printed
pub record HasRefused (told : Option (List ℕ)) (Printed : List ℕ → Type 0) (c : Command) : Type 0 where
  pub bytes : List ℕ
  pub input : IsGiven c.generate (front_of told) bytes
  pub refusal : TranslateError
  pub refused : IsRefused (options_of c) bytes refusal
  pub printed : Printed (text_of_refusal refusal)

module _ (before after : Option (List ℕ)) where
  -- the writer gained exactly the text
  abbrev pub Gains : List ℕ → Type 0
  Gains text = AppendsFront before text after

  -- the writer gained a part of the text, and not all of it
  abbrev pub GainsPart : List ℕ → Type 0
  GainsPart text = AppendsPart before text after

-- a plan's text or a refusal's line was cut short
abbrev pub HasPrintedPart : Option (List ℕ) → Option (List ℕ) → Option (List ℕ) → Command → Type 0
HasPrintedPart told before after c = HasPlanned told (GainsPart before after) c ⊎ HasRefused told (GainsPart before after) c
