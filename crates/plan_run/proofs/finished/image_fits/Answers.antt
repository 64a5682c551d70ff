use Rattle.std.proofs.Common.{arith}
use Rattle.std.proofs.lemmas.Bool.{false≢true}
use Rattle.init_plan.specs.Views.{processed_of}
use Rattle.plan_run.proofs.Tested.{static-on, static-back}
use Rattle.plan_run.proofs.finished.image_fits.Goals as goal

pub returns-then-not-are_images : goal.returns-then-not-are_images
returns-then-not-are_images c = grind (arith, false≢true, static-back)

pub returns : goal.returns
returns c =
    let t = c.args.translation.now in (
      λ e. record {
        defined = omega (arith, c.if-memory-translation.false);
        within = λ m at. rw c.bytes_of.ensures at (c.fits_memory.ensures.0 e m at);
        alone = static-on c.args.segments.now (processed_of t.memory_init) c.requires.segments (c.are_images.ensures.0 c.if-not-are_images.false);
      },
      λ f. c.fits_memory.ensures.1 (λ m at. rw c.bytes_of.ensures (f.within m at)),
    )
