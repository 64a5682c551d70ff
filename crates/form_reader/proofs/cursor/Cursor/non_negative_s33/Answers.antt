use Rattle.form_reader.proofs.ShortNumbers.{short_non_negative}
use Rattle.form_reader.proofs.cursor.Cursor.non_negative_s33.Goals as goal

pub returns-in-Some : goal.returns-in-Some
returns-in-Some c = rw c.from.ensures (short_non_negative c.in-Some.byte c.in-Some.rest.now c.args.self.now.rest.now c.in-Some.ensures c.if-byte-lt64.true)
