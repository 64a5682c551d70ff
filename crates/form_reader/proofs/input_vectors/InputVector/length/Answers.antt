use Rattle.std.proofs.Common.{arith}
use Rattle.form_reader.proofs.Listed.{listed_few}
use Rattle.form_reader.proofs.input_vectors.InputVector.length.Goals as goal

pub overflow_add-passed : goal.overflow_add-passed
overflow_add-passed g c = omega (arith, c.entries.invariant, listed_few g.E.InputEntry.form c.args.self.count c.args.self.bytes.now)
