use Rattle.std.proofs.Common.{arith, ◌≡◌, ◌-◌, ◌+◌, length, sym, ◌∙◌, subst}
use Rattle.custom_sections.specs.Views.{names_of}
use Rattle.custom_sections.specs.NameLists.{NameLists}
use Rattle.custom_sections.specs.NameReading.{names_of_section}
use Rattle.custom_sections.proofs.Joining.{still_named, at_start, more, ends, none, is_done}
use Rattle.custom_sections.proofs.names.read_names.Goals as goal

pub subsections-init : goal.subsections-init
subsections-init c = rw (c.new.ensures.items, c.new-2.ensures.items) (at_start c.args.locals c.args.contents.now)

pub returns-in_default : goal.returns-in_default
returns-in_default c =
    none c.args.locals (names_of c.subsections.names) (length c.args.contents.now) c.subsections.counter c.subsections.rest.now _
    c.subsections-test.true c.in_default.ensures c.subsections.invariant

pub returns-then-not-filled : goal.returns-then-not-filled
returns-then-not-filled c =
    grind (arith, ends c.args.locals (names_of c.subsections.names) (length c.args.contents.now) c.subsections.counter c.subsections.rest.now c.in-Some.id c.in-Some.body.now c.in-Some.after.now _ c.subsections-test.true c.in-Some.ensures (sym c.in_ok-filled.ensures.filled ∙ c.if-not-filled.true) c.subsections.invariant)

pub subsections-preserved : goal.subsections-preserved
subsections-preserved c =
    let so_far = more c.args.locals (names_of c.subsections.names) (length c.args.contents.now) c.subsections.counter c.subsections.rest.now
    c.in-Some.id c.in-Some.body.now c.in-Some.after.now _ c.subsections-test.true c.in-Some.ensures
    (sym c.in_ok-filled.ensures.filled ∙ c.if-not-filled.false) c.subsections.invariant in
    let P : NameLists → Type 0 = λ names. still_named c.args.locals names (length c.args.contents.now - (c.subsections.counter + 1))
    c.in-Some.after.now ≡ names_of_section c.args.locals c.args.contents.now in
    subst P (sym c.in_ok-filled.ensures.added) so_far

pub returns : goal.returns
returns c = is_done c.args.locals (names_of c.subsections.names) (length c.args.contents.now) c.subsections.counter c.subsections.rest.now _
    c.subsections-test.false c.subsections.invariant
