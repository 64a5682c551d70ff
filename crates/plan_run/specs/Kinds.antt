-- What operators do with nodes.
use Rattle.std.specs.Prelude.{Bool, true, false}
use Rattle.wasm_spec.specs.declared.operators.Operator.{Operator}
use Rattle.wasm_spec.specs.declared.operators.Operator.TheVariants as op
use Rattle.replay_spec.specs.Values.{Term, to_extern, to_any}
use Rattle.plan_run.specs.declared.kinds.Kind.{Kind}
use Rattle.plan_run.specs.declared.kinds.Kind.TheVariants.{Simple, Object, Conversion}

abbrev pub kind_of : Operator → Kind
kind_of (op.StructNew type) = Object
kind_of (op.StructNewDefault type) = Object
kind_of (op.ArrayNew type) = Object
kind_of (op.ArrayNewDefault type) = Object
kind_of (op.ArrayNewFixed type size) = Object
kind_of op.ExternConvertAny = Conversion
kind_of op.AnyConvertExtern = Conversion
kind_of _ = Simple

-- what a conversion makes of a term
abbrev pub conversion : Operator → Term → Term
conversion op.ExternConvertAny = to_extern
conversion op.AnyConvertExtern = to_any
conversion _ = λ term. term

-- a conversion undoes the other
abbrev pub undoes : Operator → Operator → Bool
undoes op.ExternConvertAny op.AnyConvertExtern = true
undoes op.AnyConvertExtern op.ExternConvertAny = true
undoes _ _ = false
