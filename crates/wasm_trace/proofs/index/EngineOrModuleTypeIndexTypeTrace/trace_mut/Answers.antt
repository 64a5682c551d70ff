use Rattle.std.proofs.Common.{rules}
use Rattle.wasm_trace.proofs.Runs.{one_visit}
use Rattle.wasm_trace.proofs.index.EngineOrModuleTypeIndexTypeTrace.trace_mut.Goals as goal

pub returns-clause-run : goal.returns-clause-run
returns-clause-run g c = one_visit g.F.FnMut _ _ _ _ _ (search rules)
