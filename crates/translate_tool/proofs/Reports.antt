-- What a report of a run says of the reader and the writer.
use Rattle.std.proofs.Common.{ℕ, List, length, ◌^◌, ◌≤◌, Option, Some, None, IsNone, inl, inr}
use Rattle.command_words.specs.declared.command.Command.{Command}
use Rattle.devices.specs.Device.{TellsFront}
use Rattle.plan_text.specs.declared.plan.Plan.{Plan}
use Rattle.plan_text.specs.declared.error.TranslateError.{TranslateError}
use Rattle.translate.specs.Runs.{IsSuccess, IsRefusal, IsCutShort}
use Rattle.translate_tool.specs.Ends.{HasPlanned, HasRefused, HasPrintedPart, Gains}
use Rattle.translate_tool.proofs.Given.{IsGiven-whole, IsGiven-front}

module _ (c : Command) (told left before after : Option (List ℕ)) (bytes : List ℕ) (moved : IsNone c.generate → TellsFront told bytes left) where
  -- of a success
  pub has_planned : (plan : Option Plan) (refusal : Option TranslateError) → IsSuccess bytes left plan refusal before after c
      → HasPlanned told (Gains before after) c
  has_planned (Some plan) refusal done = record {
    bytes = bytes;
    input = IsGiven-whole c.generate told left bytes moved done.whole;
    plan = plan;
    planned = done.planned;
    printed = done.printed;
  }
  has_planned None refusal done = absurd done.planned

  -- of a refusal
  pub has_refused : (plan : Option Plan) (refusal : Option TranslateError) → (IsNone c.generate → length bytes ≤ 2 ^ 30)
      → IsRefusal bytes left plan refusal before after c → HasRefused told (Gains before after) c
  has_refused plan (Some refusal) within done = record {
    bytes = bytes;
    input = IsGiven-front c.generate told left bytes moved within done.enough;
    refusal = refusal;
    refused = done.refused;
    printed = done.printed;
  }
  has_refused plan None within done = absurd done.refused

  -- of a write that failed
  pub has_printed_part : (plan : Option Plan) (refusal : Option TranslateError) → (IsNone c.generate → length bytes ≤ 2 ^ 30)
      → IsCutShort bytes left plan refusal before after c → HasPrintedPart told before after c
  has_printed_part (Some plan) None within done = inl (record {
    bytes = bytes;
    input = IsGiven-whole c.generate told left bytes moved done.0;
    plan = plan;
    planned = done.1;
    printed = done.2;
  })
  has_printed_part None (Some refusal) within done = inr (record {
    bytes = bytes;
    input = IsGiven-front c.generate told left bytes moved within done.0;
    refusal = refusal;
    refused = done.1;
    printed = done.2;
  })
  has_printed_part (Some plan) (Some refusal) within done = absurd done
  has_printed_part None None within done = absurd done
