use Rattle.std.proofs.Common.{arith, map}
use Rattle.std.proofs.lemmas.Grind.{common_steps}
use Rattle.std.proofs.lemmas.List.{map_push}
use Rattle.custom_sections.specs.Views.{hint_entry_of}
use Rattle.custom_sections.specs.HintReading.{hint_entry_at}
use Rattle.custom_sections.proofs.Elements.{at_start, no_count, more, fails, is_done}
use Rattle.custom_sections.proofs.HintLaws.{entry_taken, no_function, no_hints}
use Rattle.custom_sections.proofs.hints.entries.Goals as goal

pub returns-in_default : goal.returns-in_default
returns-in_default c = no_count hint_entry_at c.args.bytes.now c.in_default.ensures

pub entries-init : goal.entries-init
entries-init c = rw c.new-all.ensures.items (at_start hint_entry_at c.in-Some.count c.in-Some.rest.now c.args.bytes.now c.in-Some.ensures)

pub returns-in_default-u32_at : goal.returns-in_default-u32_at
returns-in_default-u32_at c =
    let none = no_function c.entries.rest.now c.in_default-u32_at.ensures in
    fails hint_entry_at (map hint_entry_of c.entries.all.items) c.in-Some.count c.entries.counter c.entries.rest.now _ c.entries-test.true
    none c.entries.invariant

pub returns-in_default-2 : goal.returns-in_default-2
returns-in_default-2 c = grind (arith, common_steps, no_hints, fails)

pub entries-preserved : goal.entries-preserved
entries-preserved c =
    let hints = rw c.in-Some-2.is at c.in_ok-hints.ensures in
    let one = entry_taken c.entries.rest.now c.in-Some-u32_at.function c.in-Some-u32_at.of_function.now c.in-Some-2.hints.items
    c.in-Some-2.after.now c.in-Some-u32_at.ensures hints in
    rw (c.in_ok-push.ensures.items, map_push hint_entry_of)
    (more hint_entry_at (map hint_entry_of c.entries.all.items) c.in-Some.count c.entries.counter c.entries.rest.now
    (c.in-Some-u32_at.function, c.in-Some-2.hints.items) c.in-Some-2.after.now _ c.entries-test.true one c.entries.invariant)

pub returns : goal.returns
returns c = is_done hint_entry_at (map hint_entry_of c.entries.all.items) c.in-Some.count c.entries.counter c.entries.rest.now _
    c.entries-test.false c.entries.invariant
