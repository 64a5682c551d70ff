use Rattle.std.proofs.Common.{ap, sym, ◌∙◌, refl, arith}
use Rattle.std.specs.Prelude.{Some, string_bytes}
use Rattle.std.proofs.lemmas.List.{length-set}
use Rattle.command_words.proofs.Reading.{reads-first, next-word, last-word, reads-ahead, reads-behind, reads-no-setting, reads-no-second}
use Rattle.command_words.proofs.Reading.{reads-last, reads-none}
use Rattle.command_words.proofs.words.with_options.Goals as goal

pub loop-word-init : goal.loop-word-init
loop-word-init c = record {
  sized = refl;
  ahead = λ command chooses. reads-first _ _ _ chooses;
  behind = λ command reads. reads.chooses;
}

pub loop-word-preserved : goal.loop-word-preserved
loop-word-preserved c =
    let first = next-word string_bytes c.args.words.now c.loop-word.word-index c.word-item.result (omega arith) c.word-item.is in
    let spelled = sym c.as_str.ensures.value ∙ c.in_ok-setting.ensures.spelled.0 in
    record {
      sized = length-set _ _ _ ∙ c.loop-word.invariant.sized;
      ahead = λ command chooses.
          reads-ahead _ _ _ _ c.in_ok-setting.setting _ _ _ command first
          (λ t allowed e. sym c.in_ok-setting.was ∙ c.read_setting.ensures.complete t allowed (c.as_str.ensures.value ∙ e))
          c.kind_of-kind.ensures.kind c.with_setting-command.ensures (c.loop-word.invariant.ahead command chooses);
      behind = λ command reads.
          c.loop-word.invariant.behind command
          (reads-behind _ _ _ _ c.in_ok-setting.setting _ _ _ command first spelled c.in_ok-setting.ensures.spelled.1 c.kind_of-kind.ensures.kind
          (omega arith) c.if-seen-kind.false c.with_setting-command.ensures reads);
    }

pub returns-in_err-setting-clause-complete : goal.returns-in_err-setting-clause-complete
returns-in_err-setting-clause-complete c = λ command chooses.
    let first = next-word string_bytes c.args.words.now c.loop-word.word-index c.word-item.result (omega arith) c.word-item.is in
    absurd (reads-no-setting _ _ _ _ _ command first
    (λ t allowed e. sym c.in_err-setting.was ∙ c.read_setting.ensures.complete t allowed (c.as_str.ensures.value ∙ e))
    (c.loop-word.invariant.ahead command chooses))

pub returns-then-seen-kind-clause-complete : goal.returns-then-seen-kind-clause-complete
returns-then-seen-kind-clause-complete c = λ command chooses.
    let first = next-word string_bytes c.args.words.now c.loop-word.word-index c.word-item.result (omega arith) c.word-item.is in
    absurd (reads-no-second _ _ _ _ c.in_ok-setting.setting _ _ command first
    (λ t allowed e. sym c.in_ok-setting.was ∙ c.read_setting.ensures.complete t allowed (c.as_str.ensures.value ∙ e))
    c.kind_of-kind.ensures.kind c.if-seen-kind.true (c.loop-word.invariant.ahead command chooses))

pub returns-clause-chosen : goal.returns-clause-chosen
returns-clause-chosen c =
    let last = last-word string_bytes c.args.words.now c.loop-word.word-index (omega arith) in
    c.loop-word.invariant.behind _ (rw last (reads-none _ _))

pub returns-clause-complete : goal.returns-clause-complete
returns-clause-complete c = λ command chooses.
    let last = last-word string_bytes c.args.words.now c.loop-word.word-index (omega arith) in
    let read = rw last at (c.loop-word.invariant.ahead command chooses) in
    ap Some (sym (reads-last _ _ command read))
