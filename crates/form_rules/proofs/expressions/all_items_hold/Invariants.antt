use Rattle.std.proofs.Common.{All, map, take}
use Rattle.wasm_spec.specs.Module.{Expression}
use Rattle.form_reader.specs.Views.{expression_of}
use Rattle.rule_spec.specs.declared.classes.Class.TheVariants as class
use Rattle.rule_spec.specs.Typing.{HasClass}
use Rattle.form_rules.specs.Views.{lists_of}
use Rattle.form_rules.proofs.expressions.all_items_hold.Given as goal

-- the expressions of the entries so far are typed
abbrev pub invariant-loop-item : goal.invariant-loop-item
invariant-loop-item l = All (λ (e : Expression). HasClass (lists_of l.typing.lists.now) l.typing.lists.now.spaces.global_types.items e class.Ref) (map expression_of (take l.item-index l.items))
