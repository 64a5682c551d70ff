use Rattle.refusal_place.proofs.EntryLaws.{none_yet, passed}
use Rattle.refusal_place.proofs.entry.listed_entry.Goals as goal

pub entries-init : goal.entries-init
entries-init g c =
    none_yet g.E.Entry.form c.args.contents.now c.read_number.new.cursor.rest.now c.in-Some.count (rw c.in-Some.is at c.in_ok-count.ensures)

pub entries-preserved : goal.entries-preserved
entries-preserved g c =
    passed g.E.Entry.form c.args.contents.now c.entries.passed c.in-Some.count c.entries.cursor.rest.now c.pass_entry.new.cursor.rest.now
    c.requires.shortens (rw c.in_default-2.is at c.in_ok-_fault.ensures) c.entries.invariant
