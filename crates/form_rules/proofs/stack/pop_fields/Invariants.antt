use Rattle.std.proofs.Common.{◌≡◌, ◌≤◌, ◌++◌, length, map, drop}
use Rattle.wasm_spec.specs.TypeData.{field_of}
use Rattle.rule_spec.specs.Typing.{field_class}
use Rattle.form_rules.proofs.stack.pop_fields.Given as goal

-- the values of the later fields are popped
abbrev pub invariant-loop-left : goal.invariant-loop-left
invariant-loop-left l = record {
  within : l.left ≤ length l.fields;
  taken : l.initial.stack.items ≡ l.stack.items ++ drop l.left (map field_class (map field_of l.fields));
}

abbrev pub decreases-loop-left : goal.decreases-loop-left
decreases-loop-left l = l.left
