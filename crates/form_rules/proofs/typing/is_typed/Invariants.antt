use Rattle.std.proofs.Common.{[], take}
use Rattle.rule_spec.proofs.Stepping.{Leads}
use Rattle.form_rules.specs.Views.{lists_of}
use Rattle.form_rules.proofs.typing.is_typed.Given as goal

-- the operators so far lead from the empty stack to this one
abbrev pub invariant-loop-op : goal.invariant-loop-op
invariant-loop-op l = Leads (lists_of l.typing.lists.now) l.visible (take l.op-index l.op-items) [] l.stack.items
