use Rattle.std.proofs.Common.{◌<◌, ◌++◌, false, replicate, length, refl, sym, ap, ◌∙◌, append_assoc, arith}
use Rattle.paged_memory.specs.declared.page.Page.TheVariants.{Own}
use Rattle.paged_memory.specs.Memory.{page_count}
use Rattle.paged_memory.specs.Pages.{joined, ArePaged}
use Rattle.paged_memory.proofs.Lists.{joined-push, not-lent-push, not-lent-all, paged-push, paged-all}
use Rattle.paged_memory.proofs.pages.copied.Goals as goal

pub loop-rest-preserved : goal.loop-rest-preserved
loop-rest-preserved c =
    let pages = c.loop-rest.pages.items in
    let page = Own c.in_ok-from_slice.field-0 in
    let back = c.split_at.result.1.now in
    let some : 0 < length c.loop-rest.rest.now = grind (arith, c.is_empty.ensures, c.loop-rest-test.true) in
    rw c.in_ok-push.ensures.items (record {
      bytes = ap (λ l. l ++ back) (joined-push pages page) ∙ append_assoc (joined pages) c.in_ok-from_slice.field-0.items back
          ∙ ap (λ l. joined pages ++ (l ++ back)) c.in_ok-from_slice.ensures.items ∙ ap (λ l. joined pages ++ l) (sym c.split_at.ensures.by_index.0) ∙ c.loop-rest.invariant.bytes;
      paged = paged-push (λ l. ArePaged c.args.size l (length c.args.bytes.now)) c.args.size (length c.loop-rest.rest.now) pages c.loop-rest.invariant.paged (length back) page some
          (ap length c.in_ok-from_slice.ensures.items ∙ omega (arith, c.split_at.ensures.front_len, c.min-count.ensures))
          (omega (arith, c.split_at.ensures.back_len, c.min-count.ensures));
      lent = not-lent-push c.args.size (length c.loop-rest.rest.now) (length back) pages page (replicate (page_count c.args.size (length c.args.bytes.now)) false)
          c.requires.size some (omega (arith, c.split_at.ensures.back_len, c.min-count.ensures)) refl c.loop-rest.invariant.lent;
    })

pub returns-clause-paged : goal.returns-clause-paged
returns-clause-paged c = paged-all (λ l. ArePaged c.args.size l (length c.args.bytes.now)) c.args.size (length c.loop-rest.rest.now) c.loop-rest.pages.items c.loop-rest.invariant.paged
    (grind (arith, c.is_empty.ensures, c.loop-rest-test.false))

pub returns-clause-lent : goal.returns-clause-lent
returns-clause-lent c = not-lent-all c.args.size (length c.loop-rest.rest.now) c.loop-rest.pages.items (replicate (page_count c.args.size (length c.args.bytes.now)) false) c.requires.size
    (grind (arith, c.is_empty.ensures, c.loop-rest-test.false)) c.loop-rest.invariant.lent
