use Rattle.std.proofs.Common.{◌≡◌, refl, sym, ◌∙◌}
use Rattle.translate_tool.specs.Telling.{told_if}
use Rattle.translate_tool.proofs.Reports.{has_planned, has_refused, has_printed_part}
use Rattle.translate_tool.proofs.running.run_over.Goals as goal

pub returns-clause-success : goal.returns-clause-success
returns-clause-success g c = λ ended.
    let done = c.run.ensures.success (sym c.end_of-exit.ensures ∙ ended) in
    let reads : c.new-source.result.told ≡ told_if g.T.Telling.reads (g.R.Read.remaining c.args.reader) = rw c.new-source.ensures refl in
    let writes : c.new-sink.result.told ≡ told_if g.T.Telling.writes (g.W.Write.contents c.args.writer) = rw c.new-sink.ensures refl in
    rw (← reads, ← writes) (record {
      command = done.command;
      named = done.named;
      holds = has_planned done.command c.new-source.result.told c.run.new.source.told c.new-sink.result.told c.run.new.sink.told c.run.result.bytes.now
          (c.run.ensures.bytes done.command done.named) c.run.result.plan c.run.result.refusal done.holds;
    })

pub returns-clause-refused : goal.returns-clause-refused
returns-clause-refused g c = λ ended.
    let done = c.run.ensures.refused (sym c.end_of-exit.ensures ∙ ended) in
    let reads : c.new-source.result.told ≡ told_if g.T.Telling.reads (g.R.Read.remaining c.args.reader) = rw c.new-source.ensures refl in
    let writes : c.new-sink.result.told ≡ told_if g.T.Telling.writes (g.W.Write.contents c.args.writer) = rw c.new-sink.ensures refl in
    rw (← reads, ← writes) (record {
      command = done.command;
      named = done.named;
      holds = has_refused done.command c.new-source.result.told c.run.new.source.told c.new-sink.result.told c.run.new.sink.told c.run.result.bytes.now
          (c.run.ensures.bytes done.command done.named) c.run.result.plan c.run.result.refusal (c.run.ensures.within done.command done.named) done.holds;
    })

pub returns-clause-cut_short : goal.returns-clause-cut_short
returns-clause-cut_short g c = λ ended.
    let done = c.run.ensures.cut_short (sym c.end_of-exit.ensures ∙ ended) in
    let reads : c.new-source.result.told ≡ told_if g.T.Telling.reads (g.R.Read.remaining c.args.reader) = rw c.new-source.ensures refl in
    let writes : c.new-sink.result.told ≡ told_if g.T.Telling.writes (g.W.Write.contents c.args.writer) = rw c.new-sink.ensures refl in
    rw (← reads, ← writes) (record {
      command = done.command;
      named = done.named;
      holds = has_printed_part done.command c.new-source.result.told c.run.new.source.told c.new-sink.result.told c.run.new.sink.told c.run.result.bytes.now
          (c.run.ensures.bytes done.command done.named) c.run.result.plan c.run.result.refusal (c.run.ensures.within done.command done.named) done.holds;
    })

pub returns-clause-usage : goal.returns-clause-usage
returns-clause-usage g c = (
  λ ended. c.run.ensures.usage.0 (sym c.end_of-exit.ensures ∙ ended),
  λ none. c.end_of-exit.ensures ∙ c.run.ensures.usage.1 none,
)

pub returns-clause-bytes : goal.returns-clause-bytes
returns-clause-bytes g c = λ command names none.
    let reads : c.new-source.result.told ≡ told_if g.T.Telling.reads (g.R.Read.remaining c.args.reader) = rw c.new-source.ensures refl in
    (c.run.result.bytes.now, c.run.ensures.within command names none, rw (← reads) (c.run.ensures.bytes command names none))
