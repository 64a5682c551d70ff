-- The source's clauses for each read give what its trait requires.
use Rattle.std.proofs.Common.{◌≤◌, length, min, refl, arith}
use Rattle.std.proofs.lemmas.List.{nil_from_length}
use Rattle.devices.proofs.Moves.{front-and-rest}
use Rattle.devices.proofs.slice_source.SliceSourceSource.TheImpl.Goals as goal

pub read-tells : goal.read-tells
read-tells g c =
    let left = c.args.self.now in
    let count = min (length c.args.buf.now) (length left) in
    let within : count ≤ length left = omega arith in
    rw c.ensures.count (record {
      within = omega arith;
      moves = front-and-rest count left _ c.new.buf.now _ within (rw c.ensures.count at c.ensures.bytes) (rw c.ensures.count at c.ensures.rest);
      ends = λ none. nil_from_length left (omega arith);
      end_noted = λ untold. cc;
      no_fault = refl;
      stays = tt;
      no_end = tt;
      counted = omega arith;
      cause = tt;
    })
