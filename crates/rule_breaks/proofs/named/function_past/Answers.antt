use Rattle.std.proofs.Common.{refl}
use Rattle.wasm_spec.specs.TypeData.{value_edges, value_of}
use Rattle.rule_breaks.proofs.FirstPast.{past_left, past_right, past_slice}
use Rattle.rule_breaks.proofs.named.function_past.Goals as goal

pub returns-in-Some : goal.returns-in-Some
returns-in-Some c =
    past_left c.args.bound _ _ c.in-Some.index
    (past_slice c.args.bound (value_edges (λ i. i)) value_of c.args.function.now.params.items _ _ _ c.deref.ensures.value c.in-Some.is c.first_past.ensures)

pub returns : goal.returns
returns c =
    past_right c.args.bound _ _ c.first_past-2.result
    (past_slice c.args.bound (value_edges (λ i. i)) value_of c.args.function.now.params.items _ _ _ c.deref.ensures.value c.in_default.is c.first_past.ensures)
    (past_slice c.args.bound (value_edges (λ i. i)) value_of c.args.function.now.results.items _ _ _ c.deref-2.ensures.value refl c.first_past-2.ensures)
