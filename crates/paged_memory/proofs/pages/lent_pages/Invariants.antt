use Rattle.std.proofs.Common.{◌≡◌, ◌+◌, ◌≤◌, drop}
use Rattle.paged_memory.specs.Memory.{count_lent}
use Rattle.paged_memory.specs.Pages.{lent_of}
use Rattle.paged_memory.proofs.pages.lent_pages.Given as goal

abbrev pub invariant-loop-page : goal.invariant-loop-page
invariant-loop-page l = record {
  counted : l.count + count_lent (lent_of (drop l.page-index l.pages)) ≡ count_lent (lent_of l.pages);
  few : l.count ≤ l.page-index;
}
