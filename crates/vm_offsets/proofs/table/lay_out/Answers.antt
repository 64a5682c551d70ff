-- The entries that are placed are those of the context.
use Rattle.vm_offsets.proofs.Placing.{laid-entries, laid-size}
use Rattle.vm_offsets.proofs.table.lay_out.Goals as goal

pub returns-clause-entries : goal.returns-clause-entries
returns-clause-entries g c =
    rw (c.end_of_static_fields.ensures, laid-entries c.args.pointer c.args.fields.now c.table.result c.table.ensures) at c.place.ensures.entries

pub returns-clause-size : goal.returns-clause-size
returns-clause-size g c =
    rw (c.end_of_static_fields.ensures, laid-size c.args.pointer c.args.fields.now c.table.result c.table.ensures) at c.place.ensures.size

pub returns-clause-fits : goal.returns-clause-fits
returns-clause-fits g c =
    rw (c.end_of_static_fields.ensures, laid-size c.args.pointer c.args.fields.now c.table.result c.table.ensures) at c.place.ensures.fits

pub returns-clause-overflow : goal.returns-clause-overflow
returns-clause-overflow g c =
    rw (c.end_of_static_fields.ensures, laid-size c.args.pointer c.args.fields.now c.table.result c.table.ensures) at c.place.ensures.overflow
