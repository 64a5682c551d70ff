use Rattle.std.proofs.Common.{◌-◌, ◌≤◌, length}
use Rattle.refusal_place.proofs.EntrySearch.{IsSoughtTo}
use Rattle.refusal_place.proofs.Located.{bytes_from}
use Rattle.refusal_place.proofs.seek.seek_section.Given as goal

abbrev pub invariant-sections : goal.invariant-sections
invariant-sections l = record {
  within : l.start ≤ length l.bytes;
  read : IsSoughtTo l.section l.bytes l.start l.next (bytes_from l.bytes l.start);
}

abbrev pub decreases-sections : goal.decreases-sections
decreases-sections l = length l.bytes - l.start
