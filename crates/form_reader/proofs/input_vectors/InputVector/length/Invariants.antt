use Rattle.std.proofs.Common.{◌≡◌, ◌+◌, length}
use Rattle.form_reader.specs.Input.{vector_in}
use Rattle.form_reader.proofs.input_vectors.InputVector.length.Given as goal

-- the remaining entries are still to be counted
abbrev pub invariant-entries : goal.invariant-entries
invariant-entries g l = l.passed + length (vector_in g.E.InputEntry.form l.self) ≡ length (vector_in g.E.InputEntry.form l.fn.self)

abbrev pub decreases-entries : goal.decreases-entries
decreases-entries g l = length (vector_in g.E.InputEntry.form l.self)
