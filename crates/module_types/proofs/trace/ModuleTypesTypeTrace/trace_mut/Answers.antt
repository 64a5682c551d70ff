use Rattle.module_types.proofs.trace.ModuleTypesTypeTrace.trace_mut.Goals as goal

pub trace_types_mut-requires : goal.trace_types_mut-requires
trace_types_mut-requires g c = rw (← c.self.view_is) at c.requires
