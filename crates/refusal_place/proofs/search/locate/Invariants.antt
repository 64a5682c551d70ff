use Rattle.std.proofs.Common.{◌-◌, ◌≤◌, length}
use Rattle.refusal_place.proofs.Passing.{IsReadTo}
use Rattle.refusal_place.proofs.Located.{bytes_from}
use Rattle.refusal_place.proofs.search.locate.Given as goal

abbrev pub invariant-sections : goal.invariant-sections
invariant-sections l = record { within : l.start ≤ length l.bytes; read : IsReadTo l.bytes l.start l.next (bytes_from l.bytes l.start) }

abbrev pub decreases-sections : goal.decreases-sections
decreases-sections l = length l.bytes - l.start
