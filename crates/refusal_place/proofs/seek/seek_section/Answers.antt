use Rattle.std.proofs.Common.{sym, ◌∙◌}
use Rattle.refusal_place.proofs.Located.{header_is_read, header_within}
use Rattle.refusal_place.proofs.EntrySearch.{sought_header, one_more, found_at, stopped_at, ended_at}
use Rattle.refusal_place.proofs.seek.seek_section.Goals as goal

pub sections-init : goal.sections-init
sections-init c =
    let t = c.header_fault.ensures.none c.in_default.is in
    record { within = header_within c.args.bytes.now _ (header_is_read c.args.bytes.now t); read = sought_header c.args.section c.args.bytes.now t }

pub returns-then-bytes-start : goal.returns-then-bytes-start
returns-then-bytes-start c =
    found_at c.args.section c.args.bytes.now c.sections.start c.sections.next c.sections-test.true c.sections.invariant.read
    (c.if-bytes-start.true ∙ c.id.ensures) c.if-bytes-ge-MAX_MODULE_SIZE.false

pub sections-preserved : goal.sections-preserved
sections-preserved c =
    let more = one_more c.args.section c.args.bytes.now c.sections.start c.sections.next c.sections-test.true c.sections.invariant.read
    c.pass_section.new.next c.in-Some-2.length (λ e. c.if-bytes-start.false (e ∙ sym c.id.ensures)) (rw c.in-Some-2.is at c.in_ok-length.ensures) in
    record { within = more.0; read = more.1 }

pub returns-in-None : goal.returns-in-None
returns-in-None c =
    stopped_at c.args.section c.args.bytes.now c.sections.start c.sections.next c.sections-test.true c.sections.invariant.read
    c.pass_section.new.next (rw c.in-None.is at c.in_ok-length.ensures)

pub returns : goal.returns
returns c =
    ended_at c.args.section c.args.bytes.now c.sections.start c.sections.next c.sections.invariant.read c.sections-test.false
