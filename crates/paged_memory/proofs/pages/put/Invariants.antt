use Rattle.std.proofs.Common.{◌≡◌, ◌+◌, ◌/◌, ◌≤◌, length}
use Rattle.paged_memory.specs.Pages.{parts_of, joined, lent_of, ArePaged, OwnBetween}
use Rattle.paged_memory.specs.Writing.{written}
use Rattle.paged_memory.proofs.pages.put.Given as goal

abbrev pub invariant-loop-rest : goal.invariant-loop-rest
invariant-loop-rest l = record {
  bytes : written l.place l.rest (joined l.pages) ≡ written l.at l.bytes (joined l.fn.pages);
  paged : ArePaged l.size (parts_of l.pages) (length (joined l.fn.pages));
  long : length (joined l.pages) ≡ length (joined l.fn.pages);
  within : l.place + length l.rest ≡ l.at + length l.bytes;
  behind : l.at ≤ l.place;
  lent : lent_of l.pages ≡ lent_of l.fn.pages;
  own : OwnBetween l.pages (l.at / l.size) l.until;
}

abbrev pub decreases-loop-rest : goal.decreases-loop-rest
decreases-loop-rest l = length l.rest
