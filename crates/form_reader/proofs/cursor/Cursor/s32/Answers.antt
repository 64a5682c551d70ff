use Rattle.std.proofs.Common.{arith, w32}
use Rattle.std.proofs.lemmas.Int.{to_z_pos}
use Rattle.form_reader.proofs.ShortNumbers.{short_s32}
use Rattle.form_reader.proofs.cursor.Cursor.s32.Goals as goal

pub returns-in-Some : goal.returns-in-Some
returns-in-Some c =
    rw (c.from.ensures, to_z_pos w32 c.in-Some.byte (omega arith))
    (short_s32 c.in-Some.byte c.in-Some.rest.now c.args.self.now.rest.now c.in-Some.ensures c.if-byte-lt64.true)
