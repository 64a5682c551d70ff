use Rattle.std.proofs.Common.{◌≡◌, refl, arith}
use Rattle.replay_spec.specs.Elements.{elements_piece}
use Rattle.table_images.specs.Views.{active_elements_of}
use Rattle.plan_run.specs.declared.elements.ElementPiece.{ElementPiece}
use Rattle.plan_run.specs.Evaluation.{globals_of, fields_of}
use Rattle.plan_run.specs.Tables.{element_piece}
use Rattle.plan_run.specs.Values.{terms_of}
use Rattle.plan_run.proofs.OneMore.{pieces-more, map-two-more}
use Rattle.plan_run.proofs.Terms.{grows-on, extends-on}
use Rattle.plan_run.proofs.evaluation.Evaluator.pieces_kept.Goals as goal

pub loop-segment-preserved : goal.loop-segment-preserved
loop-segment-preserved c =
    let fields = fields_of c.args.self.now in
    let globals = globals_of c.args.self.now in
    let s = c.segment-item.result in
    let before = c.loop-segment.invariant.grows in
    let grows = grows-on before c.in_ok-place.ensures.grows in
    let place = rw (before.values, before.translation, before.types) at c.in_ok-place.ensures.place in
    let items = rw (grows.values, grows.translation, grows.types) at c.in_ok-items.ensures.means in
    let p : ElementPiece = record { table = c.index.result; place = c.in_ok-place.place; items = c.in_ok-items.items } in
    let one : element_piece (terms_of c.items_of.new.self.nodes.items) p ≡ elements_piece globals fields (active_elements_of s) = rw (c.index.ensures.number, place, items.are) refl in
    record {
      grows = grows-on grows c.in_ok-items.ensures.grows;
      means = rw (c.in_ok-push.ensures.items, ← map-two-more (elements_piece globals fields) active_elements_of c.deref-segment-items.result.now c.loop-segment.segment-index s (omega arith))
          (pieces-more (extends-on c.in_ok-place.ensures.grows.extends c.in_ok-items.ensures.grows.extends) p c.loop-segment.invariant.means items.below (rw c.segment-item.is at one));
    }
