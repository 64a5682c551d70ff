use Rattle.form_reader.proofs.ShortNumbers.{short_u32}
use Rattle.form_reader.proofs.cursor.Cursor.u32.Goals as goal

pub returns-in-Some : goal.returns-in-Some
returns-in-Some c = rw c.from.ensures (short_u32 c.in-Some.byte c.in-Some.rest.now c.args.self.now.rest.now c.in-Some.ensures c.if-byte-lt128.true)
