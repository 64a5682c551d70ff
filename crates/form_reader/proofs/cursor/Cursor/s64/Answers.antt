use Rattle.std.proofs.Common.{arith, w64}
use Rattle.std.proofs.lemmas.Int.{to_z_pos}
use Rattle.form_reader.proofs.ShortNumbers.{short_s64}
use Rattle.form_reader.proofs.cursor.Cursor.s64.Goals as goal

pub returns-in-Some : goal.returns-in-Some
returns-in-Some c =
    rw (c.from.ensures, to_z_pos w64 c.in-Some.byte (omega arith))
    (short_s64 c.in-Some.byte c.in-Some.rest.now c.args.self.now.rest.now c.in-Some.ensures c.if-byte-lt64.true)
