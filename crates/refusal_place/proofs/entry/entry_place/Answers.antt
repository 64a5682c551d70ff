use Rattle.refusal_place.proofs.EntrySearch.{unsought_entry, no_entry_at}
use Rattle.refusal_place.proofs.Unlisted.{few_listed}
use Rattle.refusal_place.proofs.entry.entry_place.Goals as goal

pub returns-in_default-clause-place : goal.returns-in_default-clause-place
returns-in_default-clause-place c = unsought_entry c.args.section c.args.bytes.now c.args.entry (rw c.in_default.is at c.in_ok-start.ensures)

pub returns-in_default-clause-none : goal.returns-in_default-clause-none
returns-in_default-clause-none c = λ none.
    few_listed c.args.bytes.now c.args.section c.args.entry
    (unsought_entry c.args.section c.args.bytes.now c.args.entry (rw c.in_default.is at c.in_ok-start.ensures))

pub returns-in-None-clause-place : goal.returns-in-None-clause-place
returns-in-None-clause-place c =
    no_entry_at c.args.section c.args.bytes.now c.in-Some.start (rw c.in-Some.is at c.in_ok-start.ensures) c.args.entry
    (rw c.in-None.is at c.in_ok-distance.ensures)

pub returns-in-None-clause-none : goal.returns-in-None-clause-none
returns-in-None-clause-none c = λ none.
    few_listed c.args.bytes.now c.args.section c.args.entry
    (no_entry_at c.args.section c.args.bytes.now c.in-Some.start (rw c.in-Some.is at c.in_ok-start.ensures) c.args.entry
    (rw c.in-None.is at c.in_ok-distance.ensures))
