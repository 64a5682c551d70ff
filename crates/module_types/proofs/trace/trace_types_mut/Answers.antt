use Rattle.module_types.proofs.trace.trace_types_mut.Goals as goal

pub trace_all_mut-requires : goal.trace_all_mut-requires
trace_all_mut-requires g c = rw c.as_mut_slice.ensures.values c.requires
