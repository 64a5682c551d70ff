use Rattle.std.proofs.Common.{ℕ, ◌<◌, None, get_or}
use Rattle.std.specs.Prelude.{IfSome}
use Rattle.wasm_index.specs.Index.{number_of}
use Rattle.plan_run.specs.Finished.{ImageFits}
use Rattle.plan_run.proofs.finished.images_fit.Given as goal

abbrev pub invariant-loop-i : goal.invariant-loop-i
invariant-loop-i l = (k : ℕ) → k < l.i → IfSome (get_or l.images k None) (λ image. ImageFits l.translation k (image.0, number_of image.1))
