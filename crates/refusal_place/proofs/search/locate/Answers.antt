use Rattle.std.proofs.Common.{arith, inr}
use Rattle.refusal_place.proofs.Located.{header_no_module, header_decided, header_open, header_place, header_is_read, header_within, one_more, ends, not_a_module, is_place, is_open, is_decided, refused_at}
use Rattle.refusal_place.proofs.search.locate.Goals as goal

-- ---- in the header

pub returns-in-Some-clause-refused : goal.returns-in-Some-clause-refused
returns-in-Some-clause-refused c =
    let o = c.in-Some.ensures.other in
    (omega arith, λ m. header_no_module c.args.bytes.now c.in-Some.offset o.short o.other m)

pub returns-in-Some-clause-place : goal.returns-in-Some-clause-place
returns-in-Some-clause-place c = rw c.header_place.ensures (header_place c.args.bytes.now c.in-Some.offset c.in-Some.ensures.other)

pub returns-in-Some-clause-decided : goal.returns-in-Some-clause-decided
returns-in-Some-clause-decided c = rw c.header_place.ensures (header_decided c.args.bytes.now c.in-Some.offset c.in-Some.ensures.other)

pub returns-in-Some-clause-early : goal.returns-in-Some-clause-early
returns-in-Some-clause-early c = rw c.header_place.ensures (header_open c.args.bytes.now c.in-Some.offset c.in-Some.ensures.other.within)

-- ---- from section to section

pub sections-init : goal.sections-init
sections-init c =
    let read = header_is_read c.args.bytes.now (c.header_fault.ensures.none c.in_default.is) in
    record { within = header_within c.args.bytes.now _ read; read = read }

pub sections-preserved : goal.sections-preserved
sections-preserved c =
    let passed = rw c.in-Some-2.is at c.in_ok-length.ensures in
    let more = one_more c.args.bytes.now c.sections.start c.sections.next c.sections.invariant.within c.sections.invariant.read
    c.pass_section.new.next c.in-Some-2.length passed in
    record { within = more.0; read = more.1 }

-- ---- in a section

pub returns-in-None-clause-refused : goal.returns-in-None-clause-refused
returns-in-None-clause-refused c =
    let at = refused_at c.args.bytes.now c.sections.start c.sections.next c.pass_section.new.next c.sections.invariant.read
    (rw c.in-None.is at c.in_ok-length.ensures) in
    (omega arith, not_a_module c.args.bytes.now c.sections.start c.pass_section.new.next c.sections.invariant.within at.0 c.sections-test.true at.1.0 at.1.1)

pub returns-in-None-clause-place : goal.returns-in-None-clause-place
returns-in-None-clause-place c =
    let at = refused_at c.args.bytes.now c.sections.start c.sections.next c.pass_section.new.next c.sections.invariant.read
    (rw c.in-None.is at c.in_ok-length.ensures) in
    let p = c.in_ok-section_place-in-None in
    is_place c.args.bytes.now c.sections.start c.pass_section.new.next c.sections.invariant.within at.0 c.sections-test.true at.1.0 at.1.1
    p.field-0 p.ensures.wrong p.ensures.within

pub returns-in-None-clause-decided : goal.returns-in-None-clause-decided
returns-in-None-clause-decided c =
    let at = refused_at c.args.bytes.now c.sections.start c.sections.next c.pass_section.new.next c.sections.invariant.read
    (rw c.in-None.is at c.in_ok-length.ensures) in
    let p = c.in_ok-section_place-in-None in
    is_decided c.args.bytes.now c.sections.start c.pass_section.new.next c.sections.invariant.within at.0 c.sections-test.true at.1.0 at.1.1
    p.field-0.decided p.ensures.decided

pub returns-in-None-clause-early : goal.returns-in-None-clause-early
returns-in-None-clause-early c =
    let at = refused_at c.args.bytes.now c.sections.start c.sections.next c.pass_section.new.next c.sections.invariant.read
    (rw c.in-None.is at c.in_ok-length.ensures) in
    let p = c.in_ok-section_place-in-None in
    is_open c.args.bytes.now c.sections.start c.pass_section.new.next c.sections.invariant.within at.0 c.sections-test.true at.1.0 at.1.1
    p.field-0 p.ensures.early

-- ---- at the end

pub returns-clause-module : goal.returns-clause-module
returns-clause-module c = λ none.
    inr (ends c.args.bytes.now c.sections.start c.sections.next c.sections.invariant.within c.sections.invariant.read c.sections-test.false)
