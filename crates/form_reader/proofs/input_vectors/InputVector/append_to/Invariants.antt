use Rattle.std.proofs.Common.{◌≡◌, ◌++◌, map, length}
use Rattle.form_reader.specs.Input.{vector_in}
use Rattle.form_reader.proofs.input_vectors.InputVector.append_to.Given as goal

-- the remaining entries are still to be appended
abbrev pub invariant-entries : goal.invariant-entries
invariant-entries g l = map g.E.InputEntry.view l.list.items ++ vector_in g.E.InputEntry.form l.self
    ≡ map g.E.InputEntry.view l.initial.list.items ++ vector_in g.E.InputEntry.form l.fn.self

abbrev pub decreases-entries : goal.decreases-entries
decreases-entries g l = length (vector_in g.E.InputEntry.form l.self)
