use Rattle.module_types.proofs.trace.ModuleTypesTypeTrace.trace.Goals as goal

pub trace_all-requires : goal.trace_all-requires
trace_all-requires g c = rw c.as_slice.ensures (rw (← c.self.view_is) at c.requires)
