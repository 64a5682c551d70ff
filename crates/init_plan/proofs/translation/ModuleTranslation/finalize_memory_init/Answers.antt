use Rattle.std.proofs.Common.{◌≡◌, ◌∙◌, ◌-◌, Err, length, sym, ap, subst, arith}
use Rattle.std.proofs.lemmas.Result.{err_from_is_err_and}
use Rattle.replay_spec.specs.Plan.{AgreesOver}
use Rattle.replay_spec.proofs.Existing.{a-memory-plan}
use Rattle.init_plan.specs.declared.error.PlanError.TheVariants as plan
use Rattle.init_plan.specs.declared.translation.ModuleTranslation.{ModuleTranslation}
use Rattle.init_plan.specs.Images.{image_options, image_memories, BeginsByRule, HasWholeRanges}
use Rattle.init_plan.specs.Views.{memory_plan_of, ranges_of, initializers_of, passive_bytes, defined_sizes, FindsInOrder, passive_data_of}
use Rattle.init_plan.proofs.MemoriesKept.{are-tight, memories-frame}
use Rattle.init_plan.proofs.WholeRanges.{whole_ranges}
use Rattle.init_plan.proofs.Sized.{fits_sized, data_large}
use Rattle.init_plan.proofs.OtherHalf.{TableHalfIsReady-same}
use Rattle.init_plan.proofs.translation.ModuleTranslation.finalize_memory_init.Goals as goal

pub returns-clause-begins : goal.returns-clause-begins
returns-clause-begins c = subst (BeginsByRule (image_options c.args.tunables.now c.args.page_size c.args.max_image) c.args.self.now)
    (sym c.in_ok-raise_startup_by_memories.ensures.ok) (let h = c.in_ok-plan_memories.ensures.begins in record { segmented = h.segmented; images = h.images })

pub returns-clause-agrees : goal.returns-clause-agrees
returns-clause-agrees c = subst (λ (t : ModuleTranslation). AgreesOver c.args.self.now.module.num_imported_memories (defined_sizes c.args.self.now.module)
    (initializers_of c.args.self.now) (memory_plan_of t)) (sym c.in_ok-raise_startup_by_memories.ensures.ok) c.in_ok-plan_memories.ensures.agrees

pub returns-clause-tight : goal.returns-clause-tight
returns-clause-tight c = are-tight (image_options c.args.tunables.now c.args.page_size c.args.max_image) c.args.self.now.module.num_imported_memories
    (image_memories c.args.self.now.module) (initializers_of c.args.self.now) (passive_bytes c.args.self.now) _ c.requires.page_size

pub returns-clause-whole_ranges : goal.returns-clause-whole_ranges
returns-clause-whole_ranges c =
    let old = c.args.self.now in
    let planned = c.in_ok-plan_memories.ensures.planned in
    let ranges = c.in_ok-plan_memories.ensures.ranges in
    subst (λ (t : ModuleTranslation). HasWholeRanges c.args.page_size (memory_plan_of t).images (ranges_of t.module)) (sym c.in_ok-raise_startup_by_memories.ensures.ok)
    (rw ranges (whole_ranges (image_options c.args.tunables.now c.args.page_size c.args.max_image) old.module.num_imported_memories (image_memories old.module)
    (initializers_of old) (passive_bytes old) _ planned))

pub returns-clause-tables_ready : goal.returns-clause-tables_ready
returns-clause-tables_ready c = λ h. TableHalfIsReady-same c.args.self.now _
    (memories-frame c.args.self.now _ _ _ c.in_ok-plan_memories.ensures.same c.in_ok-raise_startup_by_memories.ensures.ok) h

pub returns-clause-found : goal.returns-clause-found
returns-clause-found c =
    let ps = passive_data_of c.args.self.now in
    subst (λ (t : ModuleTranslation). let plan = memory_plan_of t in FindsInOrder plan.runtime plan.passive (length plan.runtime - length ps) ps)
    (sym c.in_ok-raise_startup_by_memories.ensures.ok) c.in_ok-plan_memories.ensures.found

-- the runtime data of every plan fit, once there are images
pub returns-then-is_poisoned-clause-large : goal.returns-then-is_poisoned-clause-large
returns-then-is_poisoned-clause-large c = λ much.
    let fits = fits_sized (image_options c.args.tunables.now c.args.page_size c.args.max_image) c.args.self.now c.requires.ready c.in_ok-images.images
    c.in_ok-images.ensures.sized much.plan much.is_plan in absurd (omega (arith, fits, much.size))

pub returns-clause-large : goal.returns-clause-large
returns-clause-large c = λ much.
    let fits = fits_sized (image_options c.args.tunables.now c.args.page_size c.args.max_image) c.args.self.now c.requires.ready c.in_ok-images.images
    c.in_ok-images.ensures.sized much.plan much.is_plan in absurd (omega (arith, fits, much.size))

-- there is a plan, and its runtime data are too large because those of every plan are
pub returns-in_err-images-clause-too_large : goal.returns-in_err-images-clause-too_large
returns-in_err-images-clause-too_large c = λ is.
    let old = c.args.self.now in
    let some = a-memory-plan (image_options c.args.tunables.now c.args.page_size c.args.max_image) old.module.num_imported_memories
    (image_memories old.module) (initializers_of old) (passive_bytes old) in
    let p = err_from_is_err_and c.from_residual.result c.from_residual.ensures.1 in
    let whole = sym p.1 ∙ is in
    let part = p.2 in
    let same : c.in_err-images.field-0.0 ≡ plan.TooLarge = cc in
    record { plan = some.0; is_plan = some.1; size = c.in_err-images.ensures.too_large (ap Err same) some.0 some.1 }

-- where images are off, only the size can be an error
pub returns-in_err-images-clause-poisoned_without_images : goal.returns-in_err-images-clause-poisoned_without_images
returns-in_err-images-clause-poisoned_without_images c = λ off fits poisoned.
    let large = data_large (image_options c.args.tunables.now c.args.page_size c.args.max_image) c.args.self.now c.requires.ready off
    (c.in_err-images.ensures.too_large (c.in_err-images.ensures.off off)) in absurd (omega (arith, fits, large))
