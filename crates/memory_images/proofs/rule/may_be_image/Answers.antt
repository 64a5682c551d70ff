use Rattle.std.proofs.Common.{◌<◌, length, arith, rules}
use Rattle.std.proofs.lemmas.Bool.{leb-true}
use Rattle.memory_images.proofs.ImageRule.{some_laid}
use Rattle.memory_images.proofs.rule.may_be_image.Goals as goal

pub returns-then-settings-page_size : goal.returns-then-settings-page_size
returns-then-settings-page_size c = λ ss same.
    let some : 0 < length c.args.laid.now = search rules in
    let page = c.if-settings-page_size.true in
    let size = c.page_size.ensures in
    let both = c.is_dense.ensures ss same in (
      (λ t ne. record { page = omega (arith, page, size); dense = both.0 t }),
      (λ may. both.1 (may (some_laid c.args.laid.now ss same some)).dense),
    )

pub returns-else-settings-page_size : goal.returns-else-settings-page_size
returns-else-settings-page_size c = λ ss same.
    let some : 0 < length c.args.laid.now = search rules in
    let page = c.if-settings-page_size.false in
    let size = c.page_size.ensures in (
      (λ t. absurd (let h = leb-true c.args.settings.page_size c.page_size.result t in omega (arith, h, page))),
      (λ may. absurd (let h = (may (some_laid c.args.laid.now ss same some)).page in omega (arith, h, page, size))),
    )
