use Rattle.std.proofs.Common.{◌-◌, ◌∙◌, arith}
use Rattle.std.proofs.lemmas.List.{length-map}
use Rattle.std.proofs.lemmas.Result.{err_from_is_err_and}
use Rattle.paged_memory.specs.Pages.{page_bytes, is_lent, lent_of}
use Rattle.paged_memory.proofs.Lists.{map-set-same, not-lent-more, own-more}
use Rattle.paged_memory.proofs.pages.own_pages.Goals as goal

pub returns-in_err-own-clause-parts : goal.returns-in_err-own-clause-parts
returns-in_err-own-clause-parts c = map-set-same page_bytes c.loop-i.pages c.loop-i.i c.own.new.page c.index-pages-i.result c.own.ensures.bytes ∙ c.loop-i.invariant.parts

pub returns-in_err-own-clause-err : goal.returns-in_err-own-clause-err
returns-in_err-own-clause-err c =
    let p = err_from_is_err_and c.from_residual.result c.from_residual.ensures.1 in rw p.1 (
      c.loop-i.i - c.args.from,
      omega (arith, c.loop-i-test.true),
      map-set-same is_lent c.loop-i.pages c.loop-i.i c.own.new.page c.index-pages-i.result c.in_err-own.ensures.lent ∙ c.loop-i.invariant.lent,
    )

pub loop-i-preserved : goal.loop-i-preserved
loop-i-preserved c = record {
  parts = map-set-same page_bytes c.loop-i.pages c.loop-i.i c.own.new.page c.index-pages-i.result c.own.ensures.bytes ∙ c.loop-i.invariant.parts;
  lent = not-lent-more c.loop-i.pages (lent_of c.args.pages.now) c.args.from c.loop-i.i c.own.new.page (omega arith)
      (omega (arith, c.loop-i-test.true, c.requires.within, c.loop-i.auto.pages)) c.in_ok-own.ensures.own
      (omega (arith, length-map c.args.pages.now is_lent, c.loop-i.auto.pages)) c.loop-i.invariant.lent;
  own = own-more c.loop-i.pages c.args.from c.loop-i.i c.own.new.page (omega (arith, c.loop-i-test.true, c.requires.within, c.loop-i.auto.pages)) c.in_ok-own.ensures.own c.loop-i.invariant.own;
}
