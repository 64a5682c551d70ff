use Rattle.std.proofs.Common.{◌≡◌, ℕ, List, ◌++◌, false, replicate, length}
use Rattle.paged_memory.specs.Memory.{page_count}
use Rattle.paged_memory.specs.Pages.{parts_of, joined, lent_of, ArePaged}
use Rattle.paged_memory.proofs.pages.copied.Given as goal

abbrev pub invariant-loop-rest : goal.invariant-loop-rest
invariant-loop-rest l = record {
  bytes : joined l.pages.items ++ l.rest ≡ l.bytes;
  paged : (parts : List (List ℕ)) → ArePaged l.size parts (length l.rest) → ArePaged l.size (parts_of l.pages.items ++ parts) (length l.bytes);
  lent : lent_of l.pages.items ++ replicate (page_count l.size (length l.rest)) false ≡ replicate (page_count l.size (length l.bytes)) false;
}

abbrev pub decreases-loop-rest : goal.decreases-loop-rest
decreases-loop-rest l = length l.rest
