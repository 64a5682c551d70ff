use Rattle.std.proofs.Common.{◌≡◌, ◌-◌, length, subst, arith}
use Rattle.refusal_place.specs.Found.{ReadsUpTo}
use Rattle.refusal_place.proofs.EntryLaws.{none_yet, passed, left_bytes}
use Rattle.refusal_place.proofs.entries.entries_fault.Goals as goal

pub entries-init : goal.entries-init
entries-init g c =
    none_yet g.E.Entry.form c.args.contents.now c.read_number.new.cursor.rest.now c.in-Some.count (rw c.in-Some.is at c.in_ok-count.ensures)

pub entries-preserved : goal.entries-preserved
entries-preserved g c =
    passed g.E.Entry.form c.args.contents.now c.entries.entry c.in-Some.count c.entries.cursor.rest.now c.pass_entry.new.cursor.rest.now
    c.requires.shortens (rw c.in_default-2.is at c.in_ok-fault.ensures) c.entries.invariant

pub returns : goal.returns
returns g c =
    let last : c.entries.entry ≡ c.in-Some.count = omega arith in
    let contents = c.args.contents.now in
    let rest = c.entries.cursor.rest.now in
    left_bytes g.E.Entry.form contents c.in-Some.count rest c.requires.unread.0 c.requires.unread.1
    (subst (λ n. ReadsUpTo g.E.Entry.form contents n (length contents - length rest) c.in-Some.count rest) last c.entries.invariant)
