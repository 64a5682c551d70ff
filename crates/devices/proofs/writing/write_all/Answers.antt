-- One more write appends the next bytes of the text.
use Rattle.std.proofs.Common.{take, arith, sym, ◌∙◌}
use Rattle.std.proofs.Math.Seq.{take-add}
use Rattle.devices.proofs.Appends.{AppendsFront-then}
use Rattle.devices.proofs.writing.write_all.Goals as goal

pub writes-preserved : goal.writes-preserved
writes-preserved g c =
    let text = c.args.text.now in
    let before = c.writes.written in
    let count = c.in_ok-written.field-0 in
    record {
      appended = AppendsFront-then _ _ _ (take before text) _ _ (sym (take-add before count text)) c.writes.invariant.appended
          (rw (← c.split_at.ensures.back) c.in_ok-written.ensures.appends);
      no_fault = c.in_ok-written.ensures.no_fault ∙ c.writes.invariant.no_fault;
      within = omega (arith, c.in_ok-written.ensures.takes, c.split_at.ensures.back_len);
      untouched = λ none. absurd (omega (arith, c.in_ok-written.ensures.takes));
    }
