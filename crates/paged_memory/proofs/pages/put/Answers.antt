use Rattle.std.proofs.Common.{◌≡◌, ◌+◌, ◌/◌, ◌%◌, ◌<◌, ◌≤◌, length, get_or, sym, ap, subst, ◌∙◌, arith}
use Rattle.std.specs.Prelude.{IsTrue}
use Rattle.std.proofs.lemmas.List.{get_or_default}
use Rattle.std.proofs.Math.Nat.{div-mul-le_self, le-div_iff_mul-le, div-lt_iff_lt-mul}
use Rattle.paged_memory.specs.declared.page.Page.TheVariants.{Zero}
use Rattle.paged_memory.specs.Pages.{page_bytes, is_own, is_lent, joined}
use Rattle.paged_memory.specs.Writing.{written}
use Rattle.paged_memory.proofs.Lists.{map-set-same, own-kept}
use Rattle.paged_memory.proofs.Paged.{length-written, written-twice}
use Rattle.paged_memory.proofs.Place.{there, room, all-written, still-paged}
use Rattle.paged_memory.proofs.pages.put.Goals as goal

pub prove-unreachable-requires : goal.prove-unreachable-requires
prove-unreachable-requires c =
    let some : 0 < length c.loop-rest.rest.now = grind (arith, c.is_empty.ensures, c.loop-rest-test.true) in
    omega (
      arith,
      c.if-prove.true,
      there c.loop-rest.pages c.args.size (length (joined c.args.pages.now)) c.loop-rest.place (Zero 0) c.requires.size c.loop-rest.invariant.paged
          (omega (arith, some, c.loop-rest.invariant.within, c.requires.within)),
    )

pub put_in-requires-clause-own : goal.put_in-requires-clause-own
put_in-requires-clause-own c =
    let some : 0 < length c.loop-rest.rest.now = grind (arith, c.is_empty.ensures, c.loop-rest-test.true) in
    let index = c.loop-rest.place / c.args.size in
    let low = there c.loop-rest.pages c.args.size (length (joined c.args.pages.now)) c.loop-rest.place (Zero 0) c.requires.size c.loop-rest.invariant.paged
    (omega (arith, some, c.loop-rest.invariant.within, c.requires.within)) in
    subst (λ p. IsTrue (is_own p)) (get_or_default c.loop-rest.pages index (Zero 0) c.index-pages-index.result low)
    (c.loop-rest.invariant.own index ((le-div_iff_mul-le c.requires.size).1 (omega (arith, div-mul-le_self c.args.at c.args.size, c.loop-rest.invariant.behind)))
    ((div-lt_iff_lt-mul c.requires.size).1 (omega (arith, some, c.loop-rest.invariant.within, c.requires.reach))))

pub put_in-requires-clause-within : goal.put_in-requires-clause-within
put_in-requires-clause-within c =
    let some : 0 < length c.loop-rest.rest.now = grind (arith, c.is_empty.ensures, c.loop-rest-test.true) in
    room c.loop-rest.pages c.args.size (length (joined c.args.pages.now)) c.loop-rest.place c.index-pages-index.result c.requires.size c.loop-rest.invariant.paged
    (omega (arith, some, c.loop-rest.invariant.within, c.requires.within)) (length c.split_at.result.0.now)
    (omega (arith, c.split_at.ensures.front_len, c.min-count.ensures))
    (omega (arith, c.split_at.ensures.front_len, c.min-count.ensures, c.loop-rest.invariant.within, c.requires.within))

pub loop-rest-preserved : goal.loop-rest-preserved
loop-rest-preserved c =
    let some : 0 < length c.loop-rest.rest.now = grind (arith, c.is_empty.ensures, c.loop-rest-test.true) in
    let pages = c.loop-rest.pages in
    let n = length (joined c.args.pages.now) in
    let place = c.loop-rest.place in
    let old = c.index-pages-index.result in
    let new = c.put_in.new.page in
    let front = c.split_at.result.0.now in
    let back = c.split_at.result.1.now in
    let low : place < n = omega (arith, some, c.loop-rest.invariant.within, c.requires.within) in
    let fits : place % c.args.size + length front ≤ length (page_bytes (get_or pages (place / c.args.size) old)) =
    room pages c.args.size n place old c.requires.size c.loop-rest.invariant.paged low (length front)
    (omega (arith, c.split_at.ensures.front_len, c.min-count.ensures))
    (omega (arith, c.split_at.ensures.front_len, c.min-count.ensures, c.loop-rest.invariant.within, c.requires.within)) in
    let long : length (page_bytes new) ≡ length (page_bytes (get_or pages (place / c.args.size) old)) =
    ap length c.put_in.ensures.bytes ∙ length-written (place % c.args.size) front (page_bytes (get_or pages (place / c.args.size) old)) fits in
    let there_is = there pages c.args.size n place old c.requires.size c.loop-rest.invariant.paged low in
    let all = all-written pages c.args.size n place old c.requires.size c.loop-rest.invariant.paged low new front fits c.put_in.ensures.bytes long in
    let ends : place + (length front + length back) ≤ length (joined pages) =
    omega (arith, c.split_at.ensures.front_len, c.split_at.ensures.back_len, c.loop-rest.invariant.within, c.loop-rest.invariant.long, c.requires.within) in
    record {
      bytes = ap (written (place + c.min-count.result) back) all ∙ ap (λ k. written (place + k) back (written place front (joined pages))) (sym c.split_at.ensures.front_len)
          ∙ written-twice place front back (joined pages) ends ∙ ap (λ l. written place l (joined pages)) (sym c.split_at.ensures.by_index.0) ∙ c.loop-rest.invariant.bytes;
      paged = still-paged pages c.args.size n place old c.requires.size c.loop-rest.invariant.paged low new front fits c.put_in.ensures.bytes long;
      long = ap length all ∙ length-written place front (joined pages) (omega (arith, ends)) ∙ c.loop-rest.invariant.long;
      within = omega (arith, c.split_at.ensures.front_len, c.split_at.ensures.back_len, c.loop-rest.invariant.within);
      behind = omega (arith, c.loop-rest.invariant.behind);
      lent = map-set-same is_lent pages (place / c.args.size) new old c.put_in.ensures.lent ∙ c.loop-rest.invariant.lent;
      own = own-kept pages (c.args.at / c.args.size) c.args.until (place / c.args.size) new there_is c.put_in.ensures.own c.loop-rest.invariant.own;
    }
