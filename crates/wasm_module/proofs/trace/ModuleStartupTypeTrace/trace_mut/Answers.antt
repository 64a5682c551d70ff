use Rattle.wasm_module.proofs.trace.ModuleStartupTypeTrace.trace_mut.Goals as goal

pub trace_mut-requires : goal.trace_mut-requires
trace_mut-requires g c = rw c.in-Always.is at c.requires

pub trace_mut-requires-in-IfMemoriesNeedInit : goal.trace_mut-requires-in-IfMemoriesNeedInit
trace_mut-requires-in-IfMemoriesNeedInit g c = rw c.in-IfMemoriesNeedInit.is at c.requires
