use Rattle.form_reader.specs.ReadingNumbers.{vector_at}
use Rattle.form_reader.specs.TypeRows.{value_type}
use Rattle.form_reader.proofs.SameItems.{same_items}
use Rattle.form_reader.proofs.cursor.Cursor.params.Goals as goal

pub returns : goal.returns
returns c =
    same_items (λ v. v.items) c.vector.new.self.rest.now c.vector.result (vector_at value_type.read c.args.self.now.rest.now) c.vector.ensures
