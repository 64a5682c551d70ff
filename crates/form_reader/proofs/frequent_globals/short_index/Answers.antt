use Rattle.form_reader.proofs.FrequentGlobals.{index_read}
use Rattle.form_reader.proofs.frequent_globals.short_index.Goals as goal

pub returns-in-Some : goal.returns-in-Some
returns-in-Some c = rw (c.from.ensures) (index_read c.in-Some.first c.args.bytes.now c.in-Some.rest.now c.if-first-lt64.true c.in-Some.ensures)
