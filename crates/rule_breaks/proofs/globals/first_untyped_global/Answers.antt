use Rattle.std.proofs.Common.{length, ap, arith}
use Rattle.form_reader.specs.Views.{global_of}
use Rattle.form_rules.specs.Views.{lists_of}
use Rattle.form_rules.proofs.Taking.{taken}
use Rattle.rule_breaks.proofs.UntypedGlobals.{globals_pass_none, globals_pass_more, globals_pass_fails, globals_pass_ended}
use Rattle.rule_breaks.proofs.globals.first_untyped_global.Goals as goal

pub loop-globals-init : goal.loop-globals-init
loop-globals-init c =
    let at = c.walk_of-globals.ensures in
    record {
      counted = omega (arith, ap length at, c.requires.counted);
      place = omega arith;
      passes = globals_pass_none _ _ at;
    }

pub loop-globals-preserved : goal.loop-globals-preserved
loop-globals-preserved c =
    let at = taken _ _ _ _ _ c.if-branch.true c.in_ok-advance.ensures c.entry.ensures in
    let so_far = c.loop-globals.invariant in
    record {
      counted = omega (arith, ap length at, so_far.counted);
      place = omega (arith, so_far.place, c.in_ok-number.ensures);
      passes = globals_pass_more (lists_of c.args.typing.now.lists.now) _ _ _ (global_of c.entry.result.now) so_far.passes at _ c.loop-globals.index c.in_ok-number.ensures so_far.place
          (c.in_ok-global_is_typed.ensures.0 c.if-not-branch.false);
    }

pub returns-then-not-branch : goal.returns-then-not-branch
returns-then-not-branch c =
    let at = taken _ _ _ _ _ c.if-branch.true c.in_ok-advance.ensures c.entry.ensures in
    let so_far = c.loop-globals.invariant in
    globals_pass_fails (lists_of c.args.typing.now.lists.now) _ _ _ (global_of c.entry.result.now) so_far.passes at c.loop-globals.index so_far.place _ c.if-not-branch.true
    c.in_ok-global_is_typed.ensures

pub returns : goal.returns
returns c = globals_pass_ended (lists_of c.args.typing.now.lists.now) _ _ _ _ _ c.loop-globals.invariant.passes c.if-branch.false c.in_ok-advance.ensures
