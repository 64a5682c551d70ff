use Rattle.wasm_trace.proofs.Joined.{may_run_first_mut, may_run_then_mut}
use Rattle.wasm_module.proofs.trace.ModuleTypeTrace.trace_mut.Goals as goal

pub trace_list_mut-requires-2 : goal.trace_list_mut-requires-2
trace_list_mut-requires-2 g c =
    may_run_first_mut g.F.FnMut _ _ _ (may_run_then_mut g.F.FnMut _ _ _ _ _ c.requires c.in_ok-trace_list_mut.ensures.run)

pub trace_list_mut-requires-3 : goal.trace_list_mut-requires-3
trace_list_mut-requires-3 g c =
    let after_1 = may_run_then_mut g.F.FnMut _ _ _ _ _ c.requires c.in_ok-trace_list_mut.ensures.run in
    may_run_first_mut g.F.FnMut _ _ _ (may_run_then_mut g.F.FnMut _ _ _ _ _ after_1 c.in_ok-trace_list_mut-2.ensures.run)

pub trace_list_mut-requires-4 : goal.trace_list_mut-requires-4
trace_list_mut-requires-4 g c =
    let after_1 = may_run_then_mut g.F.FnMut _ _ _ _ _ c.requires c.in_ok-trace_list_mut.ensures.run in
    let after_2 = may_run_then_mut g.F.FnMut _ _ _ _ _ after_1 c.in_ok-trace_list_mut-2.ensures.run in
    may_run_first_mut g.F.FnMut _ _ _ (may_run_then_mut g.F.FnMut _ _ _ _ _ after_2 c.in_ok-trace_list_mut-3.ensures.run)

pub trace_list_mut-requires-5 : goal.trace_list_mut-requires-5
trace_list_mut-requires-5 g c =
    let after_1 = may_run_then_mut g.F.FnMut _ _ _ _ _ c.requires c.in_ok-trace_list_mut.ensures.run in
    let after_2 = may_run_then_mut g.F.FnMut _ _ _ _ _ after_1 c.in_ok-trace_list_mut-2.ensures.run in
    let after_3 = may_run_then_mut g.F.FnMut _ _ _ _ _ after_2 c.in_ok-trace_list_mut-3.ensures.run in
    may_run_first_mut g.F.FnMut _ _ _ (may_run_then_mut g.F.FnMut _ _ _ _ _ after_3 c.in_ok-trace_list_mut-4.ensures.run)

pub trace_mut-requires : goal.trace_mut-requires
trace_mut-requires g c =
    let after_1 = may_run_then_mut g.F.FnMut _ _ _ _ _ c.requires c.in_ok-trace_list_mut.ensures.run in
    let after_2 = may_run_then_mut g.F.FnMut _ _ _ _ _ after_1 c.in_ok-trace_list_mut-2.ensures.run in
    let after_3 = may_run_then_mut g.F.FnMut _ _ _ _ _ after_2 c.in_ok-trace_list_mut-3.ensures.run in
    let after_4 = may_run_then_mut g.F.FnMut _ _ _ _ _ after_3 c.in_ok-trace_list_mut-4.ensures.run in
    may_run_then_mut g.F.FnMut _ _ _ _ _ after_4 c.in_ok-trace_list_mut-5.ensures.run
