use Rattle.form_reader.proofs.FrequentGlobals.{flag_read}
use Rattle.form_reader.proofs.frequent_globals.short_mutability.Goals as goal

pub returns-in-Some : goal.returns-in-Some
returns-in-Some c = flag_read c.in-Some.flag c.args.bytes.now c.in-Some.rest.now c.if-flag-lt2.true c.in-Some.ensures
