use Rattle.wasm_trace.proofs.Runs.{may_visit_first, may_go_on}
use Rattle.wasm_trace.proofs.entity.TagTypeTrace.trace.Goals as goal

pub func-requires-2 : goal.func-requires-2
func-requires-2 g c = may_visit_first _ _ _ _ (may_go_on _ _ _ _ _ c.requires c.in_ok-func.ensures)
