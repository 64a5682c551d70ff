use Rattle.std.proofs.Common.{◌≡◌, ℕ, ◌<◌, length, All}
use Rattle.std.specs.Prelude.{Contains}
use Rattle.memory_images.specs.Sweep.{start_of}
use Rattle.memory_images.proofs.written.starts_of.Given as goal

abbrev pub invariant-segments : goal.invariant-segments
invariant-segments l = record {
  each : (k : ℕ) → k < l.i → Contains l.starts.items (start_of l.segments k, k);
  numbers : All (λ s. (s.1 < length l.segments) × (s.0 ≡ start_of l.segments s.1)) l.starts.items;
}
