-- The errors of the crates below, as errors of a plan.
use Rattle.memory_images.specs.declared.error.ImageError.{ImageError}
use Rattle.memory_images.specs.declared.error.ImageError.TheVariants as image
use Rattle.module_types.specs.declared.error.BuildError.{BuildError}
use Rattle.module_types.specs.declared.error.BuildError.TheVariants as build
use Rattle.init_plan.specs.declared.error.PlanError.{PlanError}
use Rattle.init_plan.specs.declared.error.PlanError.TheVariants as plan

abbrev pub error_of_build : BuildError → PlanError
error_of_build build.OutOfMemory = plan.OutOfMemory
error_of_build build.Poisoned = plan.Poisoned

-- the error of a plan where there are no images
abbrev pub plan_error_of : ImageError → PlanError
plan_error_of image.TooLarge = plan.TooLarge
plan_error_of image.OutOfMemory = plan.OutOfMemory
