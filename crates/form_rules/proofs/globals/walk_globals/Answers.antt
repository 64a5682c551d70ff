use Rattle.std.proofs.Common.{length, ap, arith}
use Rattle.form_reader.specs.Views.{global_of}
use Rattle.rule_spec.specs.References.{GlobalRefersIn}
use Rattle.form_rules.specs.Views.{lists_of}
use Rattle.form_rules.proofs.Taking.{taken}
use Rattle.form_rules.proofs.Walking.{by_All, by_globals, asked_more, asked_all}
use Rattle.form_rules.proofs.globals.walk_globals.Goals as goal

pub loop-globals-preserved : goal.loop-globals-preserved
loop-globals-preserved c =
    let l = lists_of c.args.typing.now.lists.now in
    let g = global_of c.entry.result.now in
    let at = taken _ _ _ _ _ c.if-branch.true c.in_ok-advance.ensures c.entry.ensures in
    let so_far = c.loop-globals.invariant in
    let added = c.in_ok-kept.ensures in
    record {
      counted = omega (arith, ap length at, so_far.counted);
      typed = asked_more (by_globals l c.loop-globals.index) _ _ _ _ g so_far.typed _ at added.typed;
      refer = asked_more (by_All (GlobalRefersIn (length l.types))) _ _ _ _ g so_far.refer _ at added.refer;
    }

pub returns : goal.returns
returns c =
    let l = lists_of c.args.typing.now.lists.now in
    let so_far = c.loop-globals.invariant in
    record {
      typed = asked_all (by_globals l c.loop-globals.index) _ _ _ _ _ so_far.typed _ c.if-branch.false c.in_ok-advance.ensures;
      refer = asked_all (by_All (GlobalRefersIn (length l.types))) _ _ _ _ _ so_far.refer _ c.if-branch.false c.in_ok-advance.ensures;
    }
