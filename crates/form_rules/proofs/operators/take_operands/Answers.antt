use Rattle.std.proofs.Common.{Some, refl}
use Rattle.wasm_spec.specs.declared.operators.Operator.TheVariants as op
use Rattle.rule_spec.specs.declared.classes.Class.TheVariants as class
use Rattle.form_rules.specs.Views.{lists_of}
use Rattle.form_rules.proofs.TakesNothing.{takes_nothing_at}
use Rattle.form_rules.proofs.operators.take_operands.Goals as goal

pub returns-in-I32Const : goal.returns-in-I32Const
returns-in-I32Const c = takes_nothing_at (lists_of c.args.typing.now.lists.now) c.args.visible.now c.args.op.now (op.I32Const c.in-I32Const.value) (Some class.I32) c.args.stack.now.items c.in-I32Const.is refl

pub returns-in-I64Const : goal.returns-in-I64Const
returns-in-I64Const c = takes_nothing_at (lists_of c.args.typing.now.lists.now) c.args.visible.now c.args.op.now (op.I64Const c.in-I64Const.value) (Some class.I64) c.args.stack.now.items c.in-I64Const.is refl

pub returns-in-F32Const : goal.returns-in-F32Const
returns-in-F32Const c = takes_nothing_at (lists_of c.args.typing.now.lists.now) c.args.visible.now c.args.op.now (op.F32Const c.in-F32Const.bits) (Some class.F32) c.args.stack.now.items c.in-F32Const.is refl

pub returns-in-F64Const : goal.returns-in-F64Const
returns-in-F64Const c = takes_nothing_at (lists_of c.args.typing.now.lists.now) c.args.visible.now c.args.op.now (op.F64Const c.in-F64Const.bits) (Some class.F64) c.args.stack.now.items c.in-F64Const.is refl

pub returns-in-V128Const : goal.returns-in-V128Const
returns-in-V128Const c = takes_nothing_at (lists_of c.args.typing.now.lists.now) c.args.visible.now c.args.op.now (op.V128Const c.in-V128Const.value) (Some class.V128) c.args.stack.now.items c.in-V128Const.is refl

pub returns-in-RefNull : goal.returns-in-RefNull
returns-in-RefNull c = takes_nothing_at (lists_of c.args.typing.now.lists.now) c.args.visible.now c.args.op.now (op.RefNull c.in-RefNull.hty) (Some class.Ref) c.args.stack.now.items c.in-RefNull.is refl

pub returns-in-GlobalGet : goal.returns-in-GlobalGet
returns-in-GlobalGet c = takes_nothing_at (lists_of c.args.typing.now.lists.now) c.args.visible.now c.args.op.now (op.GlobalGet c.in-GlobalGet.global_index) _ c.args.stack.now.items c.in-GlobalGet.is c.global_get.ensures

pub returns-in-RefFunc : goal.returns-in-RefFunc
returns-in-RefFunc c = takes_nothing_at (lists_of c.args.typing.now.lists.now) c.args.visible.now c.args.op.now (op.RefFunc c.in-RefFunc.function_index) _ c.args.stack.now.items c.in-RefFunc.is c.ref_func.ensures

pub returns-in-StructNewDefault : goal.returns-in-StructNewDefault
returns-in-StructNewDefault c = takes_nothing_at (lists_of c.args.typing.now.lists.now) c.args.visible.now c.args.op.now (op.StructNewDefault c.in-StructNewDefault.struct_type_index) _ c.args.stack.now.items c.in-StructNewDefault.is c.struct_new_default.ensures
