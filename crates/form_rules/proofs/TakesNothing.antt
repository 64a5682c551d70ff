-- Operators that take nothing.
use Rattle.std.proofs.Common.{◌≡◌, ◌∙◌, sym, ap, List, Option}
use Rattle.std.specs.Option.{option_and_then}
use Rattle.wasm_spec.specs.declared.entities.GlobalType.{GlobalType}
use Rattle.wasm_spec.specs.declared.operators.Operator.{Operator}
use Rattle.rule_spec.specs.declared.classes.Class.{Class}
use Rattle.rule_spec.specs.Lists.{Lists}
use Rattle.rule_spec.specs.Typing.{signature, gives}
use Rattle.form_rules.specs.Stack.{Taken}
use Rattle.form_rules.proofs.StackLemmas.{takes_nothing}

pub takes_nothing_at : (l : Lists) (visible : List GlobalType) (op is_op : Operator) (pushed : Option Class) (stack : List Class) → op ≡ is_op
    → option_and_then gives pushed ≡ signature l visible is_op → Taken (signature l visible op) stack stack pushed
takes_nothing_at l visible op is_op pushed stack same is =
    takes_nothing pushed (signature l visible op) stack (is ∙ ap (signature l visible) (sym same))
