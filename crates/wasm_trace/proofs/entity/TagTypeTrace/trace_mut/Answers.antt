use Rattle.std.proofs.Common.{refl, rules}
use Rattle.wasm_trace.proofs.Runs.{may_visit_first_mut, may_go_on_mut}
use Rattle.wasm_trace.proofs.entity.TagTypeTrace.trace_mut.Goals as goal

pub func-requires-2 : goal.func-requires-2
func-requires-2 g c = may_visit_first_mut _ _ _ _ (may_go_on_mut g.F.FnMut _ _ _ _ c.func.new.arg2 c.requires (search rules)) _ refl
