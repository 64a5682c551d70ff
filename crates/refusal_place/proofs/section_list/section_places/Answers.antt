use Rattle.refusal_place.proofs.SectionLists.{one_listed, all_listed}
use Rattle.refusal_place.proofs.SectionsComplete.{lists_all}
use Rattle.refusal_place.proofs.section_list.section_places.Goals as goal

pub sections-preserved : goal.sections-preserved
sections-preserved c =
    let found = rw c.in-Some-2.is at c.in_ok-place.ensures in
    rw c.in_ok-push.ensures.items (one_listed c.args.bytes.now c.sections.start c.sections.invariant.within c.in-Some-2.place found.0 found.1 c.sections.places.items c.sections.invariant)

pub returns-clause-sections : goal.returns-clause-sections
returns-clause-sections c =
    all_listed c.args.bytes.now c.sections.start c.sections.places.items (c.header_fault.ensures.none c.in_default.is)
    c.if-bytes-ge-MAX_MODULE_SIZE.false c.sections.invariant (rw c.in_default-2.is at c.in_ok-place.ensures)

pub returns-clause-all : goal.returns-clause-all
returns-clause-all c = λ m spells short.
    lists_all c.args.bytes.now c.sections.places.items m
    (all_listed c.args.bytes.now c.sections.start c.sections.places.items (c.header_fault.ensures.none c.in_default.is)
    c.if-bytes-ge-MAX_MODULE_SIZE.false c.sections.invariant (rw c.in_default-2.is at c.in_ok-place.ensures)) spells short
