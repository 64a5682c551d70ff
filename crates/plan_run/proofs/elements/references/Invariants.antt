use Rattle.std.proofs.Common.{◌≡◌, List, map, take}
use Rattle.std.specs.Prelude.{All}
use Rattle.wasm_index.specs.Index.{number_of}
use Rattle.replay_spec.specs.Values as plain
use Rattle.replay_spec.specs.Values.{Term}
use Rattle.plan_run.specs.Values.{values_in, IsPlain}
use Rattle.plan_run.proofs.elements.references.Given as goal

abbrev pub invariant-loop-function : goal.invariant-loop-function
invariant-loop-function l = record {
  means : (terms : List Term) → values_in terms l.items.items ≡ map (λ k. plain.Ref (plain.Func k)) (map number_of (take l.function-index l.functions));
  plain : All IsPlain l.items.items;
}
