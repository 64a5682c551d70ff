use Rattle.refusal_place.proofs.EntrySearch.{unsought_contents, contents_at, no_contents_at}
use Rattle.refusal_place.proofs.Unlisted.{no_section}
use Rattle.refusal_place.proofs.seek.contents_place.Goals as goal

pub returns-in_default-clause-place : goal.returns-in_default-clause-place
returns-in_default-clause-place c = unsought_contents c.args.section c.args.bytes.now (rw c.in_default.is at c.in_ok-start.ensures)

pub returns-in_default-clause-none : goal.returns-in_default-clause-none
returns-in_default-clause-none c = λ none.
    no_section c.args.bytes.now c.args.section
    (unsought_contents c.args.section c.args.bytes.now (rw c.in_default.is at c.in_ok-start.ensures))

pub returns-in-Some-2-clause-place : goal.returns-in-Some-2-clause-place
returns-in-Some-2-clause-place c =
    contents_at c.args.section c.args.bytes.now c.in-Some.start (rw c.in-Some.is at c.in_ok-start.ensures) c.in-Some-2.found
    (rw c.in-Some-2.is at c.in_ok-found.ensures)

pub returns-in-None-clause-place : goal.returns-in-None-clause-place
returns-in-None-clause-place c =
    no_contents_at c.args.section c.args.bytes.now c.in-Some.start (rw c.in-Some.is at c.in_ok-start.ensures)
    (rw c.in-None.is at c.in_ok-found.ensures)

pub returns-in-None-clause-none : goal.returns-in-None-clause-none
returns-in-None-clause-none c = λ none.
    no_section c.args.bytes.now c.args.section
    (no_contents_at c.args.section c.args.bytes.now c.in-Some.start (rw c.in-Some.is at c.in_ok-start.ensures)
    (rw c.in-None.is at c.in_ok-found.ensures))
