use Rattle.std.proofs.Common.{◌≡◌, ℕ, List, ◌++◌}
use Rattle.std.specs.Prelude.{false, replicate}
use Rattle.paged_memory.specs.Memory.{page_count}
use Rattle.paged_memory.specs.Pages.{parts_of, joined, lent_of, ArePaged, Continued}
use Rattle.paged_memory.proofs.pages.push_zeros.Given as goal

abbrev pub invariant-loop-left : goal.invariant-loop-left
invariant-loop-left l = record {
  bytes : joined l.pages.items ++ replicate l.left 0 ≡ joined l.fn.pages.items ++ replicate l.len 0;
  paged : (parts : List (List ℕ)) → ArePaged l.size parts l.left → Continued l.size l.len (parts_of l.fn.pages.items) (parts_of l.pages.items ++ parts);
  lent : lent_of l.pages.items ++ replicate (page_count l.size l.left) false ≡ lent_of l.fn.pages.items ++ replicate (page_count l.size l.len) false;
}

abbrev pub decreases-loop-left : goal.decreases-loop-left
decreases-loop-left l = l.left
