use Rattle.std.proofs.Common.{rules, sym}
use Rattle.type_spec.specs.Names.{becomes-mapped}
use Rattle.wasm_index.specs.Index.{number_of}
use Rattle.wasm_trace.specs.Canonical.{CanBeConsedEdge, IsConsedEdge}
use Rattle.wasm_trace.proofs.Runs.{RunMut-rewrites, RunMut-comes}
use Rattle.wasm_trace.proofs.Tables.{may_ask, may_answer}
use Rattle.wasm_trace.proofs.Becoming.{consed-becomes}
use Rattle.wasm_trace.proofs.trace.TypeTrace.canonicalize_for_hash_consing.Goals as goal

pub trace_mut-requires : goal.trace_mut-requires
trace_mut-requires g c = record {
  at = λ past rest e now new split run.
      let table = c.args.module_to_engine.now in
      let start = number_of c.args.rec_group_range.start in
      let end = number_of c.args.rec_group_range.end in
      let here = RunMut-comes (CanBeConsedEdge (may_ask g.F.Fn table) start end) (IsConsedEdge (may_answer g.F.Fn table) start) _ _
      (λ e r f' e' can called. (search rules, search rules, search rules)) _ past rest e.now now new c.requires split run in
      search rules;
}

pub unwrap-requires : goal.unwrap-requires
unwrap-requires g c =
    let table = c.args.module_to_engine.now in
    let start = number_of c.args.rec_group_range.start in
    let end = number_of c.args.rec_group_range.end in
    let ran = RunMut-rewrites (CanBeConsedEdge (may_ask g.F.Fn table) start end) (IsConsedEdge (may_answer g.F.Fn table) start) _ _
    (λ e r f' e' can called. (search rules, search rules, search rules)) _ c.requires _ _ _ c.trace_mut.ensures.run in
    search rules

pub returns-clause-rewritten : goal.returns-clause-rewritten
returns-clause-rewritten g c =
    let table = c.args.module_to_engine.now in
    let start = number_of c.args.rec_group_range.start in
    let end = number_of c.args.rec_group_range.end in
    let ran = RunMut-rewrites (CanBeConsedEdge (may_ask g.F.Fn table) start end) (IsConsedEdge (may_answer g.F.Fn table) start) _ _
    (λ e r f' e' can called. (search rules, search rules, search rules)) _ c.requires _ _ _ c.trace_mut.ensures.run in
    record { frames = sym c.trace_mut.ensures.kept; edges = ran.2 }

pub returns-clause-mapped : goal.returns-clause-mapped
returns-clause-mapped g c = λ engine gives.
    let table = c.args.module_to_engine.now in
    let start = number_of c.args.rec_group_range.start in
    let end = number_of c.args.rec_group_range.end in
    let ran = RunMut-rewrites (CanBeConsedEdge (may_ask g.F.Fn table) start end) (IsConsedEdge (may_answer g.F.Fn table) start) _ _
    (λ e r f' e' can called. (search rules, search rules, search rules)) _ c.requires _ _ _ c.trace_mut.ensures.run in
    becomes-mapped g.Self.TypeTrace.shape _ _ (consed-becomes (may_answer g.F.Fn table) engine gives start) _ _
    (record { frames = sym c.trace_mut.ensures.kept; edges = ran.2 })
