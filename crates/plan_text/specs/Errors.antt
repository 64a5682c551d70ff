-- What each layer's error becomes as an error of the planner.
use Rattle.module_environ.specs.declared.error.EnvironError.{EnvironError}
use Rattle.module_environ.specs.declared.error.EnvironError.TheVariants as environ
use Rattle.init_plan.specs.declared.error.PlanError.{PlanError}
use Rattle.init_plan.specs.declared.error.PlanError.TheVariants as plan
use Rattle.gc_layout.specs.declared.error.LayoutError.{LayoutError}
use Rattle.gc_layout.specs.declared.error.LayoutError.TheVariants as layout
use Rattle.plan_text.specs.declared.error.TranslateError.{TranslateError}
use Rattle.plan_text.specs.declared.error.TranslateError.TheVariants as refusal

-- a builder is poisoned only where memory ran out
abbrev pub error_of_translation : EnvironError → TranslateError
error_of_translation environ.Malformed = refusal.Malformed
error_of_translation (environ.Invalid rule) = refusal.Invalid rule
error_of_translation (environ.Unsupported what) = refusal.Unsupported what
error_of_translation environ.TooLarge = refusal.TooLarge
error_of_translation environ.OutOfMemory = refusal.OutOfMemory
error_of_translation environ.Poisoned = refusal.OutOfMemory

abbrev pub error_of_plan : PlanError → TranslateError
error_of_plan plan.TooLarge = refusal.TooLarge
error_of_plan plan.OutOfMemory = refusal.OutOfMemory
error_of_plan plan.Poisoned = refusal.OutOfMemory

abbrev pub error_of_layout : LayoutError → TranslateError
error_of_layout layout.OffsetOverflow = refusal.OffsetOverflow
error_of_layout layout.OutOfMemory = refusal.OutOfMemory
