use Rattle.std.proofs.Common.{◌<◌, ap, ◌∙◌, sym, subst, length, get_or, map, arith}
use Rattle.std.specs.Prelude.{All}
use Rattle.std.proofs.lemmas.List.{take_all}
use Rattle.wasm_types.specs.Views.{module_index}
use Rattle.module_sections.proofs.Typed.{interned_type, interned-more, interned-all}
use Rattle.module_sections.proofs.functions.escaping_types.Goals as goal

pub loop-function-preserved : goal.loop-function-preserved
loop-function-preserved c =
    let i = c.loop-function.function-index in
    let lt = c.loop-function-test.true in
    let in' : get_or c.order-function-items.result.now i 0 < length c.args.functions.now =
    omega (arith, c.order-function-items.ensures.in_range i 0 lt, c.requires.counted) in
    interned-more c.args.declared.now c.as_slice-indices.result.now c.args.functions.now c.order-function-items.result.now i c.index-indices-ty.result
    c.unwrap_module_type_index.result
    c.loop-function.signatures.items c.push.new.self.items lt c.as_slice-indices.ensures (c.requires.types _ 0 in') (sym (ap module_index c.index-indices-ty.is) ∙ c.unwrap_module_type_index.ensures)
    c.loop-function.invariant c.in_ok-push.ensures.items

pub returns : goal.returns
returns c = λ m is of.
    let order = c.args.escaping.now.order in
    let in' : All (λ f. f < length c.args.functions.now) order =
    subst (λ n. All (λ f. f < n) order) (sym c.requires.counted)
    (subst (All (λ f. f < c.args.escaping.now.count)) c.order-function-items.ensures.listed c.order-function-items.ensures.in_range) in
    c.loop-function.invariant
    ∙ ap (map (interned_type c.args.declared.now c.args.functions.now))
    (take_all c.loop-function.function-index c.order-function-items.result.now c.loop-function-test.false ∙ c.order-function-items.ensures.listed)
    ∙ interned-all m c.args.declared.now order c.args.functions.now is of in' c.requires.types
