-- A machine with a stack (core specification, 4.2, runtime structure): constant expressions are
-- typed on classes, and evaluated on values.
use Rattle.std.specs.Prelude.{List, [], ◌∷◌, Option, Some, None}
use Rattle.std.specs.Option.{option_and_then}
use Rattle.wasm_spec.specs.declared.operators.Operator.{Operator}
use Rattle.wasm_spec.specs.Module.{Expression}

-- the stack after operators, of which each makes a step
abbrev pub run : {V : Type 0} → (Operator → List V → Option (List V)) → Expression → List V → Option (List V)
run step [] stack = Some stack
run step (op ∷ ops) stack = option_and_then (run step ops) (step op stack)

-- the value of a stack that holds exactly one
abbrev pub only_value : {V : Type 0} → List V → Option V
only_value (v ∷ []) = Some v
only_value _ = None

-- what an expression leaves on an empty stack, where that is one value
abbrev pub evaluated : {V : Type 0} → (Operator → List V → Option (List V)) → Expression → Option V
evaluated step e = option_and_then only_value (run step e [])
