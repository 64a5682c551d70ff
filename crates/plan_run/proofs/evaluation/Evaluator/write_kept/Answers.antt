use Rattle.std.proofs.Common.{◌+◌, ◌∙◌, length, ap}
use Rattle.std.proofs.Math.ListN.{length-set}
use Rattle.std.proofs.lemmas.List.Elements.{All-set}
use Rattle.plan_run.specs.Evaluation.{fields_of}
use Rattle.plan_run.specs.Values.{NamesBelow}
use Rattle.plan_run.proofs.Written.{kept-step}
use Rattle.plan_run.proofs.evaluation.Evaluator.write_kept.Goals as goal

pub loop-index-preserved : goal.loop-index-preserved
loop-index-preserved c =
    let before = c.loop-index.invariant in
    let old = c.loop-index.self in
    let new = c.evaluate.new.self in
    let i = c.args.imports + c.index.result in
    let g = c.loop-index-item.result in
    let v = c.in_ok-value.value in
    let grows = c.in_ok-value.ensures.grows in
    let means = rw (before.translation, before.types) at c.in_ok-value.ensures.means in
    record {
      sound = record { ordered = grows.sound.ordered; globals = All-set (NamesBelow (length new.nodes.items)) new.globals.items i v means.below grows.sound.globals };
      translation = grows.translation ∙ before.translation;
      types = grows.types ∙ before.types;
      count = length-set new.globals.items i v ∙ ap (λ vs. length vs.items) grows.globals ∙ before.count;
      written = rw (grows.globals, c.index.ensures.number) (kept-step (fields_of c.args.self.now) c.args.imports c.deref-index-items.result.now c.loop-index.index-index g g old.globals.items v
          old.nodes.items new.nodes.items c.loop-index-test.true c.loop-index-item.is grows.extends before.sound.globals means ∙ before.written);
    }
