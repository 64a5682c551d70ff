use Rattle.std.proofs.Common.{arith}
use Rattle.custom_sections.specs.HintReading.{hint_at}
use Rattle.custom_sections.proofs.Elements.{at_start, no_count, more, fails, is_done}
use Rattle.custom_sections.proofs.hints.hint_list.Goals as goal

pub returns-in_default : goal.returns-in_default
returns-in_default c = no_count hint_at c.args.bytes.now c.in_default.ensures

pub hints-init : goal.hints-init
hints-init c = rw c.new-all.ensures.items (at_start hint_at c.in-Some.count c.in-Some.rest.now c.args.bytes.now c.in-Some.ensures)

pub returns-in_default-one_hint : goal.returns-in_default-one_hint
returns-in_default-one_hint c = grind (arith, fails)

pub hints-preserved : goal.hints-preserved
hints-preserved c = rw c.in_ok-push.ensures.items (more hint_at c.hints.all.items c.in-Some.count c.hints.counter c.hints.rest.now
    c.in-Some-one_hint.one c.in-Some-one_hint.after.now _ c.hints-test.true c.in-Some-one_hint.ensures c.hints.invariant)

pub returns : goal.returns
returns c = is_done hint_at c.hints.all.items c.in-Some.count c.hints.counter c.hints.rest.now _ c.hints-test.false c.hints.invariant
