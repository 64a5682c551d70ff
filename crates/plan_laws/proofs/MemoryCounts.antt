-- The lists of a plan of memories have no more entries than there are memories and data segments,
-- and no more operators than the offsets of these.
use Rattle.std.proofs.Common.{◌≡◌, ◌≤◌, ◌+◌, ℕ, List, [], ◌∷◌, length, map, Option, Some, None, sum_by, refl, ap, inl, inr, arith, length-append}
use Rattle.std.proofs.lemmas.List.{length-map}
use Rattle.std.proofs.lemmas.List.Sums.{sum_by-cons}
use Rattle.wasm_spec.specs.Module.{DataKind, Passive, Active, Segment, Module, segments}
use Rattle.replay_spec.specs.Data.{ActiveSegment, active_of_kind, active_segments}
use Rattle.replay_spec.specs.Held.{any_null, held_segment, held_segments}
use Rattle.replay_spec.specs.Images.{ImageOptions, ImageMemory, MemoryImage, image_map, entries_of, image_bytes, IsMemoryPlan, PlansImages, PlansSegments}
use Rattle.replay_spec.specs.Plan.{PlannedOffset, Expr, Static, PlannedSegment, MemoryPlan, planned_from}
use Rattle.plan_laws.proofs.ModuleContents.{segment_operators}
use Rattle.plan_laws.proofs.SumLaws.{if_any, sum-kept}

-- ---- images

map-long : (n : ℕ) (images : List (Option MemoryImage)) → length (image_map n images) ≡ length images
map-long n [] = refl
map-long n (None ∷ images) = omega (arith, map-long n images)
map-long n (Some image ∷ images) = omega (arith, map-long (n + 1) images)

list-few : (n : ℕ) (images : List (Option (ℕ × ℕ))) → length (entries_of n images) ≤ length images
list-few n [] = omega arith
list-few n (None ∷ images) = omega (arith, list-few (n + 1) images)
list-few n (Some image ∷ images) = omega (arith, list-few (n + 1) images)

bytes-few : (images : List (Option MemoryImage)) → length (image_bytes images) ≤ length images
bytes-few [] = omega arith
bytes-few (None ∷ images) = omega (arith, bytes-few images)
bytes-few (Some image ∷ images) = omega (arith, bytes-few images)

-- ---- operators of places

abbrev pub offset_operators : PlannedOffset → ℕ
offset_operators (Expr e) = length e
offset_operators (Static place) = 0

abbrev pub planned_operators : PlannedSegment → ℕ
planned_operators s = offset_operators s.offset

abbrev active_operators : ActiveSegment → ℕ
active_operators s = length s.offset

list-none : (n : ℕ) (images : List (Option (ℕ × ℕ))) → sum_by planned_operators (entries_of n images) ≡ 0
list-none n [] = refl
list-none n (None ∷ images) = list-none (n + 1) images
list-none n (Some image ∷ images) =
    omega (arith, list-none (n + 1) images, sum_by-cons planned_operators (record { memory = n; offset = Static image.0; index = image.1 }) (entries_of (n + 1) images))

planned-long : (n : ℕ) (ss : List ActiveSegment) → length (planned_from n ss) ≡ length ss
planned-long n [] = refl
planned-long n (s ∷ ss) = omega (arith, planned-long (n + 1) ss)

planned-same : (n : ℕ) (ss : List ActiveSegment) → sum_by planned_operators (planned_from n ss) ≡ sum_by active_operators ss
planned-same n [] = refl
planned-same n (s ∷ ss) =
    omega (arith, planned-same (n + 1) ss, sum_by-cons planned_operators (record { memory = s.memory; offset = Expr s.offset; index = n }) (planned_from (n + 1) ss), sum_by-cons active_operators s ss)

-- ---- a plan

pub record IsFew (memories active passive places : ℕ) (plan : MemoryPlan) : Type 0 where
  pub images : length plan.images ≤ memories
  pub segments : length plan.segments ≤ memories + active
  pub runtime : length plan.runtime ≤ memories + active + passive
  pub operators : sum_by planned_operators plan.segments ≤ places

module _ (options : ImageOptions) (imports : ℕ) (memories : List ImageMemory) (active : List ActiveSegment) (passive : List (List ℕ)) (plan : MemoryPlan) where
  abbrev Few : Type 0
  Few = IsFew (imports + length memories) (length active) (length passive) (sum_by active_operators active) plan

  by-images : PlansImages options imports memories active passive plan → Few
  by-images is = record {
    images = omega (arith, ap length is.in_map, map-long 0 is.images, is.are_images.count);
    segments = omega (arith, ap length is.in_map, map-long 0 is.images, is.are_images.count, ap length is.in_list, list-few 0 plan.images);
    runtime = omega (arith, ap length is.runtime, length-append (image_bytes is.images) passive, bytes-few is.images, is.are_images.count);
    operators = omega (arith, ap (sum_by planned_operators) is.in_list, list-none 0 plan.images);
  }

  by-segments : PlansSegments options imports memories active passive plan → Few
  by-segments is = record {
    images = omega (arith, ap length is.in_map);
    segments = omega (arith, ap length is.in_list, planned-long 0 active);
    runtime = omega (arith, ap length is.runtime, length-append (map (λ (s : ActiveSegment). s.bytes) active) passive, length-map active (λ (s : ActiveSegment). s.bytes));
    operators = omega (arith, ap (sum_by planned_operators) is.in_list, planned-same 0 active);
  }

  pub plan-few : IsMemoryPlan options imports memories active passive plan → Few
  plan-few is = elim is.segments [ inl x ↦ by-images x | inr y ↦ by-segments y ]

-- ---- the active segments of a module

held-operators : (ss : List ActiveSegment) → sum_by active_operators (map held_segment ss) ≡ sum_by active_operators ss
held-operators [] = refl
held-operators (s ∷ ss) =
    omega (arith, held-operators ss, length-map s.offset any_null, sum_by-cons active_operators s ss, sum_by-cons active_operators (held_segment s) (map held_segment ss))

kind-below : (k : DataKind) (bytes : List ℕ) → if_any active_operators (active_of_kind k bytes) ≤ segment_operators (record { kind = k; bytes = bytes })
kind-below Passive bytes = omega arith
kind-below (Active memory offset) bytes = omega arith

pub active-operators : (m : Module) → sum_by (λ (s : ActiveSegment). length s.offset) (held_segments m) ≤ sum_by segment_operators (segments m)
active-operators m = omega (
  arith,
  held-operators (active_segments m),
  sum-kept (λ (s : Segment). active_of_kind s.kind s.bytes) active_operators segment_operators (λ s. kind-below s.kind s.bytes) (segments m),
)
