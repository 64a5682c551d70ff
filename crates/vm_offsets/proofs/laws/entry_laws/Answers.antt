-- By the rows of the table.
use Rattle.vm_offsets.proofs.Order.{entries_after, entries_apart, entries_within}
use Rattle.vm_offsets.proofs.laws.entry_laws.Goals as goal

pub returns : goal.returns
returns g c = record {
  after_static = λ pointer fields. entries_after pointer fields;
  apart = λ pointer fields. entries_apart pointer fields;
  within = λ pointer fields. entries_within pointer fields;
}
