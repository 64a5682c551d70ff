use Rattle.std.proofs.Common.{ℕ, List, Option, ap, arith, None, map}
use Rattle.std.proofs.lemmas.Grind.{common_steps}
use Rattle.std.proofs.lemmas.List.{map_push, append-nil}
use Rattle.custom_sections.specs.Views.{text_of, locals_of}
use Rattle.custom_sections.specs.NameReading.{locals_before}
use Rattle.custom_sections.proofs.Before.{locals_none, local_step, at_start, no_count, more, ends, fails, is_done}
use Rattle.custom_sections.proofs.names.add_locals.Goals as goal

pub returns-in_default-clause-added : goal.returns-in_default-clause-added
returns-in_default-clause-added c = grind (arith, no_count, append-nil)

pub returns-in_default-clause-left : goal.returns-in_default-clause-left
returns-in_default-clause-left c = grind (arith, no_count)

pub functions-init : goal.functions-init
functions-init c = grind (arith, at_start)

pub returns-in_default-u32_at-clause-added : goal.returns-in_default-u32_at-clause-added
returns-in_default-u32_at-clause-added c = grind (arith, fails, locals_none)

pub returns-in_default-u32_at-clause-left : goal.returns-in_default-u32_at-clause-left
returns-in_default-u32_at-clause-left c = grind (arith, fails, locals_none)

pub returns-in_default-after-clause-added : goal.returns-in_default-after-clause-added
returns-in_default-after-clause-added c =
    let left = rw c.in_default-after.is at c.in_ok-after.ensures.left in
    let names = rw c.new-names.ensures.items at c.in_ok-after.ensures.added in
    let one = local_step c.functions.rest.now c.in-Some-u32_at.function c.in-Some-u32_at.of_function.now
    (map text_of c.add_names.new.names.items) None
    c.in-Some-u32_at.ensures names left in
    rw (c.in_ok-push.ensures.items, map_push locals_of)
    (ap (λ (r : List (ℕ × List (ℕ × List ℕ)) × Option (List ℕ)). r.0)
    (ends locals_before (map locals_of c.functions.locals.items) c.in-Some.count c.functions.counter c.functions.rest.now _ _ c.functions-test.true
    one c.functions.invariant))

pub returns-in_default-after-clause-left : goal.returns-in_default-after-clause-left
returns-in_default-after-clause-left c =
    let left = rw c.in_default-after.is at c.in_ok-after.ensures.left in
    let names = rw c.new-names.ensures.items at c.in_ok-after.ensures.added in
    let one = local_step c.functions.rest.now c.in-Some-u32_at.function c.in-Some-u32_at.of_function.now
    (map text_of c.add_names.new.names.items) None
    c.in-Some-u32_at.ensures names left in
    ap (λ (r : List (ℕ × List (ℕ × List ℕ)) × Option (List ℕ)). r.1)
    (ends locals_before (map locals_of c.functions.locals.items) c.in-Some.count c.functions.counter c.functions.rest.now _ _ c.functions-test.true
    one c.functions.invariant)

pub functions-preserved : goal.functions-preserved
functions-preserved c = grind (arith, common_steps, local_step, map_push, more)

pub returns-clause-added : goal.returns-clause-added
returns-clause-added c = grind (arith, is_done)

pub returns-clause-left : goal.returns-clause-left
returns-clause-left c = grind (arith, common_steps, is_done)
