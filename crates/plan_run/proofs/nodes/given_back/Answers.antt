use Rattle.std.proofs.Common.{◌∙◌, ap, sym, length, refl, arith}
use Rattle.std.specs.Prelude.{slice_get}
use Rattle.std.proofs.lemmas.Option.{slice_get_read}
use Rattle.wasm_convert.specs.Operators.{operator_of}
use Rattle.plan_run.proofs.Conversions.{given-below, given-some, given-none, converts-kept}
use Rattle.plan_run.proofs.nodes.given_back.Goals as goal

pub returns-then-undoes : goal.returns-then-undoes
returns-then-undoes c =
    let nodes = c.args.nodes.now in
    let n = c.index-nodes-number.result in
    let at = slice_get_read nodes (length nodes) c.args.number n refl c.requires.within c.index-nodes-number.is in
    let does = sym c.undoes.ensures ∙ c.if-undoes.true in
    let is = c.copied.ensures ∙ c.first.ensures.value ∙ ap (λ xs. slice_get xs 0) c.deref.ensures.value in
    record {
      below = given-below nodes c.requires.ordered (operator_of c.args.op) c.requires.conversion c.args.number n at does c.copied.result is;
      some = given-some nodes c.requires.ordered (operator_of c.args.op) c.requires.conversion c.args.number n at does c.copied.result is;
      none = given-none nodes c.requires.ordered (operator_of c.args.op) c.requires.conversion c.args.number n at does _ c.copied.result is;
    }

pub returns-clause-none : goal.returns-clause-none
returns-clause-none c = grind (arith, converts-kept, slice_get_read)
