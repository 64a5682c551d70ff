use Rattle.wasm_trace.proofs.Joined.{may_run_first, may_run_then}
use Rattle.wasm_module.proofs.trace.ModuleTypeTrace.trace.Goals as goal

pub trace_list-requires-2 : goal.trace_list-requires-2
trace_list-requires-2 g c =
    may_run_first g.F.FnMut _ _ _ (may_run_then g.F.FnMut _ _ _ _ c.requires c.in_ok-trace_list.ensures)

pub trace_list-requires-3 : goal.trace_list-requires-3
trace_list-requires-3 g c =
    let after_1 = may_run_then g.F.FnMut _ _ _ _ c.requires c.in_ok-trace_list.ensures in
    may_run_first g.F.FnMut _ _ _ (may_run_then g.F.FnMut _ _ _ _ after_1 c.in_ok-trace_list-2.ensures)

pub trace_list-requires-4 : goal.trace_list-requires-4
trace_list-requires-4 g c =
    let after_1 = may_run_then g.F.FnMut _ _ _ _ c.requires c.in_ok-trace_list.ensures in
    let after_2 = may_run_then g.F.FnMut _ _ _ _ after_1 c.in_ok-trace_list-2.ensures in
    may_run_first g.F.FnMut _ _ _ (may_run_then g.F.FnMut _ _ _ _ after_2 c.in_ok-trace_list-3.ensures)

pub trace_list-requires-5 : goal.trace_list-requires-5
trace_list-requires-5 g c =
    let after_1 = may_run_then g.F.FnMut _ _ _ _ c.requires c.in_ok-trace_list.ensures in
    let after_2 = may_run_then g.F.FnMut _ _ _ _ after_1 c.in_ok-trace_list-2.ensures in
    let after_3 = may_run_then g.F.FnMut _ _ _ _ after_2 c.in_ok-trace_list-3.ensures in
    may_run_first g.F.FnMut _ _ _ (may_run_then g.F.FnMut _ _ _ _ after_3 c.in_ok-trace_list-4.ensures)

pub trace-requires : goal.trace-requires
trace-requires g c =
    let after_1 = may_run_then g.F.FnMut _ _ _ _ c.requires c.in_ok-trace_list.ensures in
    let after_2 = may_run_then g.F.FnMut _ _ _ _ after_1 c.in_ok-trace_list-2.ensures in
    let after_3 = may_run_then g.F.FnMut _ _ _ _ after_2 c.in_ok-trace_list-3.ensures in
    let after_4 = may_run_then g.F.FnMut _ _ _ _ after_3 c.in_ok-trace_list-4.ensures in
    may_run_then g.F.FnMut _ _ _ _ after_4 c.in_ok-trace_list-5.ensures
