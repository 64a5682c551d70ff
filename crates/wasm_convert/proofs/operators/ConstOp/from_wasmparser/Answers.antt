use Rattle.std.proofs.Common.{◌∙◌, sym, ap}
use Rattle.wasm_convert.specs.declared.operators.ConstOp.TheVariants as ops
use Rattle.wasm_convert.specs.Operators.{const_op_of}
use Rattle.wasm_convert.proofs.HeapTypes.{heap_converted}
use Rattle.wasm_convert.proofs.operators.ConstOp.from_wasmparser.Goals as goal

pub returns-in-RefNull : goal.returns-in-RefNull
returns-in-RefNull g c =
    let look = (goal.TypeConvert-dyn g c.args.env.now).look_up c.args.env.now.1 in
    ap ops.RefNull (heap_converted look c.in-RefNull.hty c.convert_heap_type.result c.convert_heap_type.ensures)
    ∙ ap (const_op_of look) (sym c.in-RefNull.is)
