use Rattle.std.proofs.Common.{◌≤◌, arith, true, false, map}
use Rattle.custom_sections.specs.Views.{text_of, locals_of, names_of}
use Rattle.custom_sections.specs.NameReading.{names_before, locals_before, vector_before}
use Rattle.custom_sections.proofs.Subsections.{no_module, one_module, functions_are, locals_are, locals_skipped, skipped, nothing, with_module, with_functions, with_locals}
use Rattle.custom_sections.proofs.names.SectionNames.add.Goals as goal

pub returns-in_default-whole_name-clause-added : goal.returns-in_default-whole_name-clause-added
returns-in_default-whole_name-clause-added c =
    rw c.in-0.is (nothing (names_of c.args.self.now) _ false (no_module c.args.locals c.args.contents.now c.in_default-whole_name.ensures))

pub returns-in_default-whole_name-clause-filled : goal.returns-in_default-whole_name-clause-filled
returns-in_default-whole_name-clause-filled c = grind (arith, no_module)

pub returns-in-Some-clause-added : goal.returns-in-Some-clause-added
returns-in-Some-clause-added c =
    rw c.in-0.is (with_module (names_of c.args.self.now) c.in-Some.name.now _
    (one_module c.args.locals c.args.contents.now c.in-Some.name.now c.in-Some.ensures))

pub returns-in-Some-clause-filled : goal.returns-in-Some-clause-filled
returns-in-Some-clause-filled c = grind (arith, one_module)

pub returns-in_ok-add_names-in-1-clause-added : goal.returns-in_ok-add_names-in-1-clause-added
returns-in_ok-add_names-in-1-clause-added c =
    rw c.in-1.is (with_functions (names_of c.args.self.now) (map text_of c.add_names.new.names.items) (names_before c.args.contents.now) _
    c.in_ok-add_names-in-1.ensures.added (functions_are c.args.locals c.args.contents.now))

pub returns-in_ok-add_names-in-1-clause-filled : goal.returns-in_ok-add_names-in-1-clause-filled
returns-in_ok-add_names-in-1-clause-filled c = grind (arith, functions_are)

pub returns-in_ok-add_locals-in-2-clause-added : goal.returns-in_ok-add_locals-in-2-clause-added
returns-in_ok-add_locals-in-2-clause-added c =
    rw c.in-2.is (with_locals (names_of c.args.self.now) (map locals_of c.add_locals.new.locals.items)
    (vector_before locals_before c.args.contents.now) _
    c.in_ok-add_locals-in-2.ensures.added (locals_are c.args.locals c.args.contents.now c.if-locals.true))

pub returns-in_ok-add_locals-in-2-clause-filled : goal.returns-in_ok-add_locals-in-2-clause-filled
returns-in_ok-add_locals-in-2-clause-filled c = grind (arith, locals_are)

pub returns-in_default-clause-added : goal.returns-in_default-clause-added
returns-in_default-clause-added c =
    rw c.in-2.is (nothing (names_of c.args.self.now) _ true (locals_skipped c.args.locals c.args.contents.now c.if-locals.false))

pub returns-in_default-clause-filled : goal.returns-in_default-clause-filled
returns-in_default-clause-filled c = grind (arith, locals_skipped)

pub returns-in_default-2-clause-added : goal.returns-in_default-2-clause-added
returns-in_default-2-clause-added c =
    let high : 3 ≤ c.args.id = omega arith in
    nothing (names_of c.args.self.now) _ true (skipped c.args.locals c.args.contents.now c.args.id high)

pub returns-in_default-2-clause-filled : goal.returns-in_default-2-clause-filled
returns-in_default-2-clause-filled c = grind (arith, skipped)
