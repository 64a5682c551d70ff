-- The number of bytes of data segments, by the segments and by their bytes.
use Rattle.std.proofs.Common.{◌≡◌, ℕ, ◌+◌, List, length, map, sum_by, ◌∙◌}
use Rattle.std.proofs.lemmas.List.Folds.{fold-map}
use Rattle.std.specs.Borrow.{Bor}
use Rattle.wasm_index.specs.declared.index.Index.{Index}
use Rattle.wasm_index.specs.declared.spaces.DataSpace.{DataSpace}
use Rattle.wasm_module.specs.declared.memory_initialization.MemoryInitializer.{MemoryInitializer}
use Rattle.memory_images.specs.Views.{active_segment_of}
use Rattle.init_plan.specs.Views.{passive_segment_of}

sum_by-map : {X Y : Type 0} (g : Y → ℕ) (f : X → Y) (xs : List X) → sum_by g (map f xs) ≡ sum_by (λ x. g (f x)) xs
sum_by-map g f xs = fold-map (λ n y. n + g y) f 0 xs

pub active_total : (segments : List MemoryInitializer)
    → sum_by length (map (λ s. s.bytes) (map active_segment_of segments)) ≡ sum_by (λ s. length s.bytes.now) segments
active_total segments = sum_by-map length (λ s. s.bytes) (map active_segment_of segments)
    ∙ sum_by-map (λ s. length s.bytes) active_segment_of segments

pub passive_total : (segments : List (Index DataSpace × Bor (List ℕ)))
    → sum_by length (map (λ p. p.1) (map passive_segment_of segments)) ≡ sum_by (λ p. length p.1.now) segments
passive_total segments = sum_by-map length (λ p. p.1) (map passive_segment_of segments) ∙ sum_by-map (λ p. length p.1) passive_segment_of segments

pub ruleset totals = (active_total, passive_total)
