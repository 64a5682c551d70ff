use Rattle.std.proofs.Common.{◌≡◌, ◌∙◌, None, get_or, map, ap, sym, refl, arith}
use Rattle.std.specs.Option.{option_map}
use Rattle.std.proofs.lemmas.Bool.{false≢true}
use Rattle.std.proofs.lemmas.List.{length-map}
use Rattle.std.proofs.lemmas.Option.{slice_get_within, get_or_from_slice_get, slice_get-get_or}
use Rattle.init_plan.specs.Views.{images_of}
use Rattle.plan_run.specs.Finished.{ImageFits}
use Rattle.plan_run.proofs.LeftSteps.{view_image}
use Rattle.plan_run.proofs.Tested.{image-of, image-from}
use Rattle.plan_run.proofs.finished.images_fit.Goals as goal

pub returns-then-not-is_none_or_fits : goal.returns-then-not-is_none_or_fits
returns-then-not-is_none_or_fits c =
    let t = c.args.translation.now in
    let images = c.as_slice-images.result.now in
    let i = c.loop-i.i in
    let is : images_of t.«module».memory_initialization ≡ map (option_map view_image) images =
    ap images_of c.in-Static.is ∙ ap (map (option_map view_image)) (sym c.as_slice-images.ensures) in
    let read : get_or images i None ≡ c.index-images-i.result = grind (arith, get_or_from_slice_get, slice_get-get_or) in (
      λ e. absurd (false≢true e),
      λ all. absurd (false≢true (sym c.if-not-is_none_or_fits.true ∙ c.is_none_or_fits.ensures.1 (rw read at (image-from (ImageFits t i) images i (λ image at. all i image (rw is at)))))),
    )

pub returns : goal.returns
returns c =
    let t = c.args.translation.now in
    let images = c.as_slice-images.result.now in
    let is : images_of t.«module».memory_initialization ≡ map (option_map view_image) images =
    ap images_of c.in-Static.is ∙ ap (map (option_map view_image)) (sym c.as_slice-images.ensures) in (
      λ e i image at.
          let here = rw is at at in
          let within = slice_get_within (map (option_map view_image) images) i _ here in
          image-of (ImageFits t i) images i image here (c.loop-i.invariant i (omega (arith, within, length-map images (option_map view_image), c.loop-i-test.false))),
      λ all. refl,
    )
