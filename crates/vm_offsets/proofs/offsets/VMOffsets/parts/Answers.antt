-- The parts are the entries in reverse order.
use Rattle.std.proofs.Common.{refl}
use Rattle.vm_offsets.specs.Context.{context_entries, context_table}
use Rattle.vm_offsets.proofs.Labels.{next_label}
use Rattle.vm_offsets.proofs.offsets.VMOffsets.parts.Goals as goal

pub returns : goal.returns
unfolding context_entries context_table
returns g c =
    next_label c.part.ensures.description c.part.ensures.begin
    (next_label c.part-2.ensures.description c.part-2.ensures.begin
    (next_label c.part-3.ensures.description c.part-3.ensures.begin
    (next_label c.part-4.ensures.description c.part-4.ensures.begin
    (next_label c.part-5.ensures.description c.part-5.ensures.begin
    (next_label c.part-6.ensures.description c.part-6.ensures.begin
    (next_label c.part-7.ensures.description c.part-7.ensures.begin
    (next_label c.part-8.ensures.description c.part-8.ensures.begin
    (next_label c.part-9.ensures.description c.part-9.ensures.begin
    (next_label c.part-10.ensures.description c.part-10.ensures.begin
    (next_label c.part-11.ensures.description c.part-11.ensures.begin
    (next_label c.part-12.ensures.description c.part-12.ensures.begin
    (next_label c.part-13.ensures.description c.part-13.ensures.begin
    (next_label c.part-14.ensures.description c.part-14.ensures.begin
    refl)))))))))))))
