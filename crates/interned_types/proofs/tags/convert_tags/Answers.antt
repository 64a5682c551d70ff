use Rattle.std.proofs.Common.{◌+◌, arith, rules}
use Rattle.std.proofs.lemmas.List.{length-map}
use Rattle.std.proofs.lemmas.Result.{err_from_is_err_and}
use Rattle.module_types.specs.Views.{interned_of}
use Rattle.module_types.specs.Builder.{builder_view}
use Rattle.interned_types.proofs.Tagging as tagging
use Rattle.interned_types.proofs.tags.convert_tags.Goals as goal

pub loop-index-init : goal.loop-index-init
loop-index-init c = λ m can. rw c.in_ok-converted.ensures (tagging.tagging-none can)

pub convert_tag-requires : goal.convert_tag-requires
convert_tag-requires c =
    let can = c.requires.of_module.1 in
    let x = c.loop-index.invariant c.requires.of_module.0 can in
    let lt = c.loop-index-test.true in
    let old = length-map c.args.types.now.list.types interned_of in
    record {
      below = tagging.below can x lt;
      few = tagging.types-below can x lt;
      names = tagging.names can x lt;
      held = let held = tagging.held can x lt in omega (arith, held, length-map c.loop-index.types.list.types interned_of);
      called = tagging.called can x lt;
      room = tagging.room can x lt c.requires.few_tags (omega (arith, c.requires.few_types, old));
      sound = search rules;
    }

pub push-requires : goal.push-requires
push-requires c =
    let of = c.requires.of_module in
    omega (arith, tagging.out-short of.1 (c.loop-index.invariant of.0 of.1), c.loop-index-test.true, c.requires.few_tags)

pub loop-index-preserved : goal.loop-index-preserved
loop-index-preserved c = λ m can.
    rw c.in_ok-push.ensures.ok (tagging.tagging-next can (c.loop-index.invariant m can) c.loop-index-test.true (builder_view c.convert_tag.new.types)
    c.in_ok-tag.tag c.in_ok-tag.ensures.defined c.in_ok-tag.ensures.tag)

pub returns-in_err-push-clause-stops : goal.returns-in_err-push-clause-stops
returns-in_err-push-clause-stops c =
    let p = err_from_is_err_and c.from_residual-in_err-push.result c.from_residual-in_err-push.ensures.1 in
    rw p.1 (λ sound m can. (
      c.loop-index.index-index + 1,
      (tagging.tagging-next can (c.loop-index.invariant m can) c.loop-index-test.true (builder_view c.convert_tag.new.types) c.in_ok-tag.tag
          c.in_ok-tag.ensures.defined c.in_ok-tag.ensures.tag).after,
    ))

pub returns-clause-built : goal.returns-clause-built
returns-clause-built c = λ m can.
    tagging.built-all can (c.loop-index.invariant m can) (omega (arith, c.loop-index-test.false, c.loop-index.auto.index-index-end))

pub returns-clause-few : goal.returns-clause-few
returns-clause-few c =
    let of = c.requires.of_module in
    let new = length-map c.loop-index.types.list.types interned_of in
    omega (
      arith,
      tagging.types-few of.1 (c.loop-index.invariant of.0 of.1),
      new,
      length-map c.args.types.now.list.types interned_of,
      c.requires.few_types,
      c.requires.few_tags,
      c.loop-index.auto.index-index-end,
    )
