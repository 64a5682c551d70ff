use Rattle.std.proofs.Common.{◌∙◌, None, ap, refl, arith}
use Rattle.std.proofs.lemmas.List.{take_all, length-map}
use Rattle.std.proofs.lemmas.List.Elements.{All-push}
use Rattle.replay_spec.specs.Tables.{reference_of}
use Rattle.table_images.specs.Views.{cell_of, image_of}
use Rattle.plan_run.specs.declared.value.Value.TheVariants as value
use Rattle.plan_run.specs.Values.{value_in, values_in, IsPlain}
use Rattle.plan_run.proofs.OneMore.{one-more, filled}
use Rattle.plan_run.proofs.tables.image_cells.Goals as goal

pub loop-function-preserved : goal.loop-function-preserved
loop-function-preserved c = record {
  count = let n = c.in_ok-push.ensures.len in let a = c.push.new.self.ok.0 in let b = c.loop-function.cells.ok.0 in let k = c.loop-function.invariant.count in omega arith;
  means = λ terms. ap (values_in terms) c.in_ok-push.ensures.items
      ∙ one-more (value_in terms) reference_of cell_of c.loop-function.cells.items c.args.image.now c.loop-function.function-index c.function-item.result c.cell.result
      c.loop-function-test.true (c.cell.ensures.means terms ∙ ap (λ f. reference_of (cell_of f)) c.function-item.is) (c.loop-function.invariant.means terms);
  plain = rw c.in_ok-push.ensures.items (All-push IsPlain c.loop-function.cells.items c.cell.result c.loop-function.invariant.plain c.cell.ensures.plain);
}

pub returns-clause-means : goal.returns-clause-means
returns-clause-means c = λ terms.
    let cells = c.loop-function.cells.items in
    let image = c.args.image.now in
    let ok = c.loop-function.cells.ok.0 in
    let long = length-map image cell_of in
    let means = rw (take_all c.loop-function.function-index image (omega arith)) at (c.loop-function.invariant.means terms) in
    ap (values_in terms) c.in_ok-resize.ensures.items
    ∙ filled (value_in terms) reference_of cells (image_of image) c.args.minimum _ value.Null None refl means (omega arith) (omega arith)
