-- A typed initialiser reads only globals before its own.
use Rattle.std.proofs.Common.{◌≡◌, ℕ, ◌+◌, ◌≤◌, List, [], ◌∷◌, length, map, take, All, Some, arith, length-take}
use Rattle.std.proofs.lemmas.List.Elements.{All-nil, All-cons}
use Rattle.std.proofs.lemmas.Option.{none-some, slice_get_within}
use Rattle.wasm_spec.specs.declared.entities.GlobalType.{GlobalType}
use Rattle.wasm_spec.specs.declared.operators.Operator.{Operator}
use Rattle.wasm_spec.specs.TypeData.{value_of}
use Rattle.wasm_spec.specs.Module.{Expression, GlobalDef}
use Rattle.rule_spec.specs.declared.classes.Class.{Class}
use Rattle.rule_spec.specs.Expressions.{AreGlobalsTyped}
use Rattle.rule_spec.specs.Lists.{Lists}
use Rattle.rule_spec.specs.Typing.{Signature, signature, class_of, HasClass}
use Rattle.rule_spec.proofs.Stepping.{Leads, leads_to}
use Rattle.replay_spec.specs.Globals.{ReadsBelow, ReadEarlier}

module _ (l : Lists) (visible : List GlobalType) (n : ℕ) (few : length visible ≤ n) where
  reads-step : (op : Operator) (signed : Signature) → signature l visible op ≡ Some signed → ReadsBelow n op
  reads-step op signed h1 = grind (arith, none-some, slice_get_within)

  reads-along : (e : Expression) (before after : List Class) → Leads l visible e before after → All (ReadsBelow n) e
  reads-along [] before after h = All-nil (ReadsBelow n)
  reads-along (op ∷ ops) before after h = grind (arith, All-cons, reads-step, (reads-along ops h.0 after h.2))

  pub reads-below : (e : Expression) (c : Class) → HasClass l visible e c → All (ReadsBelow n) e
  reads-below e c h = reads-along e [] (c ∷ []) (leads_to l visible e c h)

pub reads-earlier : (l : Lists) (index : ℕ) (globals : List GlobalDef) → AreGlobalsTyped l index globals → ReadEarlier index (map (λ (g : GlobalDef). g.init) globals)
reads-earlier l index [] h = tt
reads-earlier l index (g ∷ gs) h = (
  reads-below l (take index l.global_types) index (omega (arith, length-take index l.global_types)) g.init (class_of (value_of g.type.content_type)) h.0,
  reads-earlier l (index + 1) gs h.1,
)
