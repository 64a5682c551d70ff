use Rattle.std.proofs.Common.{◌≡◌, ℕ, ◌+◌, ◌*◌, List, ◌++◌, true, replicate, length}
use Rattle.paged_memory.specs.Pages.{parts_of, joined, lent_of, ArePaged, Continued}
use Rattle.paged_memory.proofs.pages.push_lent.Given as goal

abbrev pub invariant-loop-i : goal.invariant-loop-i
invariant-loop-i l = record {
  bytes : joined l.pages.items ++ l.rest ≡ joined l.fn.pages.items ++ l.bytes;
  long : length l.rest + l.i * l.size ≡ l.count * l.size;
  paged : (parts : List (List ℕ)) → ArePaged l.size parts (length l.rest)
      → Continued l.size (length l.bytes) (parts_of l.fn.pages.items) (parts_of l.pages.items ++ parts);
  lent : lent_of l.pages.items ≡ lent_of l.fn.pages.items ++ replicate l.i true;
}
