use Rattle.form_types.proofs.canonical.CanonicalGroup.add_composite.Goals as goal

pub returns-in-Struct : goal.returns-in-Struct
returns-in-Struct c = rw c.in-Struct.is (rw c.deref.ensures.value at c.add_struct.ensures)
