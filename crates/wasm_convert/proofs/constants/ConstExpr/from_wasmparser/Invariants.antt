use Rattle.std.proofs.Common.{◌≡◌, take}
use Rattle.wasm_convert.specs.Constants.{const_ops_of, functions_of}
use Rattle.wasm_convert.proofs.constants.ConstExpr.from_wasmparser.Given as goal

abbrev pub invariant-loop-op : goal.invariant-loop-op
invariant-loop-op g l =
    (l.ops.items ≡ const_ops_of ((goal.TypeConvert-dyn g l.env.now).look_up l.env.now.1) (take l.op-index l.expr.ops.items))
    × (l.escaped.items ≡ functions_of (take l.op-index l.expr.ops.items))
