use Rattle.std.proofs.Common.{◌≡◌, ◌-◌}
use Rattle.paged_memory.specs.Memory.{not_lent}
use Rattle.paged_memory.specs.Pages.{parts_of, lent_of, OwnBetween}
use Rattle.paged_memory.proofs.pages.own_pages.Given as goal

abbrev pub invariant-loop-i : goal.invariant-loop-i
invariant-loop-i l = record {
  parts : parts_of l.pages ≡ parts_of l.fn.pages;
  lent : lent_of l.pages ≡ not_lent l.from (l.i - l.from) (lent_of l.fn.pages);
  own : OwnBetween l.pages l.from l.i;
}
