use Rattle.std.proofs.Common.{◌∙◌, sym}
use Rattle.wasm_convert.specs.Constants.{function_in}
use Rattle.wasm_convert.specs.Operators.{conversion, conversion-is}
use Rattle.wasm_convert.proofs.OneMore.{map-more, filter_map-more}
use Rattle.wasm_convert.proofs.constants.ConstExpr.from_wasmparser.Goals as goal

pub loop-op-preserved : goal.loop-op-preserved
loop-op-preserved g c =
    let same = c.deref-op-items.ensures.value in
    let look = (goal.TypeConvert-dyn g c.args.env.now).look_up c.args.env.now.1 in (
      map-more (λ read. (conversion look read).op) c.loop-op.op-index _ same c.loop-op-test.true c.loop-op.invariant.0 c.in_ok-push.ensures.ok (c.from_wasmparser.ensures ∙ sym (conversion-is look _)),
      filter_map-more function_in c.loop-op.op-index _ same c.loop-op-test.true c.loop-op.invariant.1 c.in_ok-push_function.ensures,
    )
