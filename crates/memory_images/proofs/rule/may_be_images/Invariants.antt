use Rattle.std.proofs.Common.{◌≡◌, ◌≢◌, ℕ, ◌+◌, ◌<◌, map, Some, []}
use Rattle.std.specs.Prelude.{slice_get}
use Rattle.replay_spec.specs.Images.{ImageMemory, bytes_on, MayBeImage}
use Rattle.memory_images.specs.Views.{image_memory, active_segment_of, options_of}
use Rattle.memory_images.proofs.rule.may_be_images.Given as goal

-- the memories so far may have images
abbrev pub invariant-memories : goal.invariant-memories
invariant-memories l = (k : ℕ) → k < l.m → (memory : ImageMemory) → slice_get (map image_memory l.defined) k ≡ Some memory
    → bytes_on (l.imported + k) (map active_segment_of l.segments) ≢ [] → MayBeImage (options_of l.settings) memory (bytes_on (l.imported + k) (map active_segment_of l.segments))
