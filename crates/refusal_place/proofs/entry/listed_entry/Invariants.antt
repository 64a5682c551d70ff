use Rattle.std.proofs.Common.{◌-◌, length}
use Rattle.refusal_place.specs.Found.{ReadsUpTo}
use Rattle.refusal_place.proofs.entry.listed_entry.Given as goal

abbrev pub invariant-entries : goal.invariant-entries
invariant-entries g l =
    ReadsUpTo g.E.Entry.form l.contents l.passed (length l.contents - length l.cursor.rest.now) l.count l.cursor.rest.now
