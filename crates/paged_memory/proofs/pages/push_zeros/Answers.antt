use Rattle.std.proofs.Common.{◌-◌, ◌++◌, false, replicate, refl, ap, ◌∙◌, append_assoc, arith}
use Rattle.std.proofs.lemmas.List.{replicate-append-replicate, length-replicate}
use Rattle.paged_memory.specs.declared.page.Page.TheVariants.{Zero}
use Rattle.paged_memory.specs.Memory.{page_count}
use Rattle.paged_memory.specs.Pages.{parts_of, joined, lent_of, Continued}
use Rattle.paged_memory.proofs.Lists.{joined-push, not-lent-push, not-lent-all, paged-push, paged-all}
use Rattle.paged_memory.proofs.pages.push_zeros.Goals as goal

pub loop-left-preserved : goal.loop-left-preserved
loop-left-preserved c =
    let pages = c.loop-left.pages.items in
    let count = c.min-count.result in
    let left = c.loop-left.left in
    rw c.in_ok-push.ensures.items (record {
      bytes = ap (λ l. l ++ replicate (left - count) 0) (joined-push pages (Zero count)) ∙ append_assoc (joined pages) (replicate count 0) (replicate (left - count) 0)
          ∙ ap (λ l. joined pages ++ l) (replicate-append-replicate count (left - count) 0 ∙ ap (λ k. replicate k 0) (omega (arith, c.min-count.ensures))) ∙ c.loop-left.invariant.bytes;
      paged = paged-push (λ l. Continued c.args.size c.args.len (parts_of c.args.pages.now.items) l) c.args.size left pages c.loop-left.invariant.paged (left - count) (Zero count)
          (omega (arith, c.loop-left-test.true)) (length-replicate count 0 ∙ omega (arith, c.min-count.ensures)) (omega (arith, c.min-count.ensures));
      lent = not-lent-push c.args.size left (left - count) pages (Zero count) (lent_of c.args.pages.now.items ++ replicate (page_count c.args.size c.args.len) false)
          c.requires.size (omega (arith, c.loop-left-test.true)) (omega (arith, c.min-count.ensures)) refl c.loop-left.invariant.lent;
    })

pub returns-clause-paged : goal.returns-clause-paged
returns-clause-paged c = paged-all (λ l. Continued c.args.size c.args.len (parts_of c.args.pages.now.items) l) c.args.size c.loop-left.left c.loop-left.pages.items
    c.loop-left.invariant.paged (omega (arith, c.loop-left-test.false))

pub returns-clause-lent : goal.returns-clause-lent
returns-clause-lent c = not-lent-all c.args.size c.loop-left.left c.loop-left.pages.items (lent_of c.args.pages.now.items ++ replicate (page_count c.args.size c.args.len) false) c.requires.size
    (omega (arith, c.loop-left-test.false)) c.loop-left.invariant.lent
