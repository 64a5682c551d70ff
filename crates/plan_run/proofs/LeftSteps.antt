-- Segments one by one, and the images of a plan.
use Rattle.std.proofs.Common.{◌≡◌, ℕ, ◌+◌, ◌-◌, ◌<◌, ◌≤◌, List, ◌++◌, length, map, get_or, drop, append_assoc, Option, None, Some, refl, arith}
use Rattle.std.specs.Prelude.{All}
use Rattle.std.specs.List.{cons_option}
use Rattle.std.specs.Option.{option_map, option_to_list}
use Rattle.std.proofs.lemmas.List.{drop_more, get_or-drop, length-drop}
use Rattle.wasm_index.specs.declared.index.Index.{Index}
use Rattle.wasm_index.specs.declared.spaces.MemorySpace.{MemorySpace}
use Rattle.wasm_index.specs.declared.spaces.RuntimeDataSpace.{RuntimeDataSpace}
use Rattle.wasm_index.specs.Index.{number_of}
use Rattle.wasm_spec.specs.Module.{Expression}
use Rattle.replay_spec.specs.Phases.{Piece}
use Rattle.replay_spec.specs.Plan.{MemoryPlan, runtime_bytes}
use Rattle.init_plan.specs.declared.translation.MemorySegmentOffset.{MemorySegmentOffset}
use Rattle.init_plan.specs.Views.{planned_offset_of, planned_segment_of}
use Rattle.plan_run.specs.declared.laid.Way.{Way}
use Rattle.plan_run.specs.Memories.{left_place}
use Rattle.plan_run.specs.Segments.{left_pieces}

-- ---- segments

cons-is : {A : Type 0} (o : Option A) (xs : List A) → cons_option o xs ≡ option_to_list o ++ xs
cons-is None xs = refl
cons-is (Some x) xs = refl

pub left-step : (w : Way) (place_of : Expression → ℕ) (plan : MemoryPlan) (segments : List (Index MemorySpace × MemorySegmentOffset × Index RuntimeDataSpace)) (i : ℕ)
    (s d : Index MemorySpace × MemorySegmentOffset × Index RuntimeDataSpace) (front new : List (Piece ℕ)) (place : Option ℕ) → i < length segments → s ≡ get_or segments i d
    → place ≡ left_place w place_of (planned_offset_of s.1)
    → new ≡ front ++ option_to_list (option_map (λ at. record { object = number_of s.0; offset = at; items = runtime_bytes plan (number_of s.2) }) place)
    → new ++ left_pieces w place_of plan (map planned_segment_of (drop (i + 1) segments)) ≡ front ++ left_pieces w place_of plan (map planned_segment_of (drop i segments))
left-step w place_of plan segments i s d front new place l is at pushed = grind (arith, append_assoc, cons-is, drop_more)

-- ---- images

abbrev pub view_image : ℕ × Index RuntimeDataSpace → ℕ × ℕ
view_image image = (image.0, number_of image.1)

-- ---- the last items of a list

pub last-at : {A : Type 0} (P : A → Type 0) (xs : List A) (n i : ℕ) (d : A) → n ≤ i → i < length xs → All P (drop n xs) → P (get_or xs i d)
last-at P xs n i d low high all = grind (arith, length-drop n xs, get_or-drop n xs (i - n) d)
