-- The stack on which constant expressions are evaluated.
use Rattle.std.specs.Prelude.{List, map}
use Rattle.replay_spec.specs.Values.{Value}
use Rattle.wasm_convert.specs.declared.evaluation.Stack.{Stack}
use Rattle.wasm_convert.specs.Constants.{plain_value_of}

-- the values on the stack, the last on top
abbrev pub plain_stack : Stack → List Value
plain_stack stack = map plain_value_of stack.values.items
