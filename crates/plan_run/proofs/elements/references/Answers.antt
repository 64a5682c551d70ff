use Rattle.std.proofs.Common.{◌∙◌, map, ap, arith}
use Rattle.std.proofs.lemmas.List.{take_all}
use Rattle.std.proofs.lemmas.List.Elements.{All-push}
use Rattle.wasm_index.specs.Index.{number_of}
use Rattle.replay_spec.specs.Values as plain
use Rattle.plan_run.specs.Values.{value_in, values_in, IsPlain}
use Rattle.plan_run.proofs.OneMore.{one-more}
use Rattle.plan_run.proofs.elements.references.Goals as goal

pub loop-function-preserved : goal.loop-function-preserved
loop-function-preserved c = record {
  means = λ terms. ap (values_in terms) c.in_ok-push.ensures.items
      ∙ one-more (value_in terms) (λ k. plain.Ref (plain.Func k)) number_of c.loop-function.items.items c.args.functions.now c.loop-function.function-index c.function-item.result _
      c.loop-function-test.true (ap (λ x. plain.Ref (plain.Func (number_of x))) c.function-item.is) (c.loop-function.invariant.means terms);
  plain = rw c.in_ok-push.ensures.items (All-push IsPlain c.loop-function.items.items _ c.loop-function.invariant.plain tt);
}

pub returns-clause-means : goal.returns-clause-means
returns-clause-means c = λ terms. c.loop-function.invariant.means terms
    ∙ ap (λ xs. map (λ k. plain.Ref (plain.Func k)) (map number_of xs)) (take_all c.loop-function.function-index c.args.functions.now (omega arith))
