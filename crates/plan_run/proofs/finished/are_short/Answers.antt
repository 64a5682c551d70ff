use Rattle.std.proofs.Common.{length, refl, arith}
use Rattle.std.proofs.lemmas.Bool.{cases_eq, false≢true}
use Rattle.std.proofs.lemmas.Option.{slice_get_read}
use Rattle.plan_run.proofs.Lists.{some-at}
use Rattle.plan_run.proofs.Tested.{not-short, all-short}
use Rattle.plan_run.proofs.finished.are_short.Goals as goal

pub returns-then-minimum_of-len : goal.returns-then-minimum_of-len
returns-then-minimum_of-len c = λ values many.
    let images = c.args.images.now in
    let i = c.loop-i.i in
    let image = c.index-images-i.result in
    let found = some-at c.args.tables.now i (omega arith) in
    let minimum = c.minimum_of.ensures found.0 found.1 in
    let at = slice_get_read images (length images) i image refl c.loop-i-test.true c.index-images-i.is in
    (λ e. absurd (false≢true e), λ all. absurd (not-short c.args.tables.now values images many c.requires i found.0 image found.1 at (omega arith) (omega arith) all))

pub loop-i-preserved : goal.loop-i-preserved
loop-i-preserved c = grind (arith, slice_get_read, cases_eq)

pub returns : goal.returns
returns c = grind (arith, all-short)
