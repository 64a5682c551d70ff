-- Two runs over the same words and bytes that succeed write one text, and none succeeds where
-- another refuses.
use Rattle.std.proofs.Common.{◌≡◌, ℕ, List, [], ◌∷◌, ◌++◌, length, Option, Some, None, refl, sym, subst}
use Rattle.std.specs.Prelude.{◌-◌, sum_by, codes}
use Rattle.std.specs.declared.ops.Range.{Range}
use Rattle.wasm_types.specs.ViewsTell.{Back}
use Rattle.vm_offsets.specs.Context.{context_size}
use Rattle.command_words.specs.declared.command.Command.{Command}
use Rattle.command_words.specs.Commands.{Names}
use Rattle.devices.specs.Device.{AppendsFront}
use Rattle.plan_text.specs.declared.plan.Plan.{Plan}
use Rattle.plan_text.specs.declared.error.TranslateError.{TranslateError}
use Rattle.plan_lines.specs.ModuleLines.{startup_line}
use Rattle.plan_lines.specs.Numbers.{numbers_line}
use Rattle.plan_text.specs.Summary.{summary_of}
use Rattle.translate.specs.Options.{Options, options_of}
use Rattle.translate.specs.Planned.{IsPlanned}
use Rattle.translate.specs.Runs.{Commands, IsSuccess, text_for}
use Rattle.plan_laws.specs.Same.{SamePlan}
use Rattle.plan_laws.specs.Runs.{GainAlike}
use Rattle.plan_laws.proofs.Text.{same-text}
use Rattle.plan_laws.proofs.Told.{all-told}

range-back : Back {A = Range ℕ} {B = ℕ × ℕ} (λ range. (range.start, range.end))
range-back = record { back = λ r. record { start = r.0; end = r.1 }; is = λ r. refl }

module _ (p q : Plan) (same : SamePlan p q) where
  ranges : p.translation.module.runtime_data ≡ q.translation.module.runtime_data
  ranges = all-told (λ (range : Range ℕ). (range.start, range.end)) range-back _ _ same.translation.module.runtime_data

  same-summary : (number bytes : ℕ) → summary_of number bytes p ≡ summary_of number bytes q
  unfolding summary_of
  same-summary number bytes = λ i.
      numbers_line (codes "generated") (number ∷ [])
      ++ numbers_line (codes "bytes") (bytes ∷ [])
      ++ numbers_line (codes "types") (length (same.types i).types ∷ [])
      ++ numbers_line (codes "runtime") (sum_by (λ (range : Range ℕ). range.end - range.start) (ranges i) ∷ [])
      ++ startup_line (same.translation.module.startup i)
      ++ numbers_line (codes "context") (context_size (same.offsets i).ptr (same.offsets i) ∷ [])

  same-answer : (generate : Option ℕ) (bytes : List ℕ) → text_for generate bytes p ≡ text_for generate bytes q
  same-answer None bytes = same-text p q same
  same-answer (Some n) bytes = same-summary n (length bytes)

-- words name one command at most
abbrev pub OneCommand : List (List ℕ) → Option Command → Type 0
OneCommand words read = (command : Command) → Names words command → read ≡ Some command

one-command : (read : Option Command) (c d : Command) → read ≡ Some c → read ≡ Some d → c ≡ d
one-command read c d a b = cc

module _ (words : List (List ℕ)) (read : Option Command) (one : OneCommand words read) (p q : Plan)
    (alike : (o : Options) (bytes : List ℕ) → IsPlanned o bytes p → IsPlanned o bytes q → SamePlan p q) where
  pub gain-alike : (bytes : List ℕ) (left rest before after old new : Option (List ℕ)) (refusal other : Option TranslateError)
      → Commands words (IsSuccess bytes left (Some p) refusal before after) → Commands words (IsSuccess bytes rest (Some q) other old new)
      → GainAlike before after old new
  gain-alike bytes left rest before after old new refusal other a b =
      let command : b.command ≡ a.command = one-command read b.command a.command (one b.command b.named) (one a.command a.named) in
      let success : IsSuccess bytes rest (Some q) other old new a.command = subst (IsSuccess bytes rest (Some q) other old new) command b.holds in
      let same : SamePlan p q = alike (options_of a.command) bytes a.holds.planned success.planned in
      record {
        text = text_for a.command.generate bytes p;
        one = a.holds.printed;
        other = subst (λ (text : List ℕ). AppendsFront old text new) (sym (same-answer p q same a.command.generate bytes)) success.printed;
      }
