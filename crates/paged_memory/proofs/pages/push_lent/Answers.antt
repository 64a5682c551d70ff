use Rattle.std.proofs.Common.{◌≡◌, ℕ, ◌+◌, ◌*◌, ◌≤◌, ◌++◌, true, replicate, length, refl, sym, ap, ◌∙◌, append_assoc, arith}
use Rattle.std.proofs.lemmas.Nat.{mul-le}
use Rattle.paged_memory.specs.declared.page.Page.TheVariants.{Lent}
use Rattle.paged_memory.specs.Pages.{parts_of, joined, lent_of, Continued}
use Rattle.paged_memory.proofs.Lists.{joined-push, lent-more, paged-push, paged-all}
use Rattle.paged_memory.proofs.pages.push_lent.Goals as goal

pub loop-i-preserved : goal.loop-i-preserved
loop-i-preserved c =
    let pages = c.loop-i.pages.items in
    let rest = c.loop-i.rest.now in
    let front = c.split_at.result.0 in
    let back = c.split_at.result.1.now in
    let size = c.args.size in
    let room : (c.loop-i.i + 1) * size ≤ c.args.count * size = mul-le (c.loop-i.i + 1) size c.args.count size (omega (arith, c.loop-i-test.true)) (omega arith) in
    rw c.in_ok-push.ensures.items (record {
      bytes = ap (λ l. l ++ back) (joined-push pages (Lent front)) ∙ append_assoc (joined pages) front.now back
          ∙ ap (λ l. joined pages ++ l) (sym c.split_at.ensures.by_index.0) ∙ c.loop-i.invariant.bytes;
      long = omega (arith, c.split_at.ensures.back_len, c.loop-i.invariant.long);
      paged = paged-push (λ l. Continued size (length c.args.bytes.now) (parts_of c.args.pages.now.items) l) size (length rest) pages c.loop-i.invariant.paged (length back) (Lent front)
          (omega (arith, c.requires.size, room, c.loop-i.invariant.long)) (omega (arith, c.split_at.ensures.front_len, room, c.loop-i.invariant.long))
          (omega (arith, c.split_at.ensures.back_len));
      lent = lent-more pages (Lent front) (lent_of c.args.pages.now.items) c.loop-i.i refl c.loop-i.invariant.lent;
    })

at-end : (i count : ℕ) → i ≤ count → count ≤ i → i ≡ count
at-end i count low high = omega (arith, low, high)

pub returns-clause-paged : goal.returns-clause-paged
returns-clause-paged c = paged-all (λ l. Continued c.args.size (length c.args.bytes.now) (parts_of c.args.pages.now.items) l) c.args.size (length c.loop-i.rest.now) c.loop-i.pages.items
    c.loop-i.invariant.paged (omega (arith, c.loop-i.invariant.long, ap (λ k. k * c.args.size) (at-end c.loop-i.i c.args.count c.loop-i.auto.i-end c.loop-i-test.false)))

pub returns-clause-lent : goal.returns-clause-lent
returns-clause-lent c = c.loop-i.invariant.lent
    ∙ ap (λ n. lent_of c.args.pages.now.items ++ replicate n true) (at-end c.loop-i.i c.args.count c.loop-i.auto.i-end c.loop-i-test.false)
