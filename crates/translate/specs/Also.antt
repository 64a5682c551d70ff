-- What follows from the rest of what a plan promises. It says how the definitions work together, and
-- an auditor may pass over it.
use Rattle.std.specs.Prelude.{◌≡◌, ◌↔◌, ℕ, ◌<◌, List, length, map, slice_get, Option, Some, None}
use Rattle.std.specs.Option.{option_and_then}
use Rattle.wasm_spec.specs.Module.{Module, DataKind, Passive, Active, Segment, types, imported_memories, defined_memories, segments}
use Rattle.type_spec.specs.Equality.{SameType}
use Rattle.form_types.specs.Placed.{placed_groups}
use Rattle.replay_spec.specs.Held.{held_segments}
use Rattle.replay_spec.specs.Images.{image_memory_of}
use Rattle.init_plan.specs.declared.translation.ModuleTranslation.{ModuleTranslation}
use Rattle.init_plan.specs.Views.{memory_plan_of, ranges_of}
use Rattle.init_plan.specs.Images.{HasTightImages, HasWholeRanges}
use Rattle.interned_types.specs.Types.{interned_at}
use Rattle.translate.specs.Options.{InitOptions, images, passive_bytes}

-- the bytes of a data segment that is passive
abbrev pub bytes_if_passive : DataKind → List ℕ → Option (List ℕ)
bytes_if_passive Passive bytes = Some bytes
bytes_if_passive (Active memory offset) bytes = None

abbrev pub passive_bytes_of : Segment → Option (List ℕ)
passive_bytes_of s = bytes_if_passive s.kind s.bytes

-- bytes are found at an index of the runtime data; where there are none, nothing is found
abbrev pub Finds : List (List ℕ) → Option ℕ → Option (List ℕ) → Type 0
Finds runtime (Some index) (Some bytes) = slice_get runtime index ≡ Some bytes
Finds runtime None None = Unit {0}
Finds runtime found bytes = ⊥

pub record AlsoHolds (i : InitOptions) (m : Module) (t : ModuleTranslation) : Type 0 where
  -- two declared types have one index exactly where they are equal by group and position
  pub equal_types : (j k : ℕ) → j < length (types m) → k < length (types m)
      → (interned_at m j ≡ interned_at m k) ↔ SameType (placed_groups m) (placed_groups m) j k
  -- each image is complete pages within its memory, has the contents, and is tight
  pub tight : HasTightImages (images i) (length (imported_memories m)) (map image_memory_of (defined_memories m)) (held_segments m)
      (passive_bytes m) (memory_plan_of t)
  -- the ranges of images go from page to page
  pub whole_ranges : HasWholeRanges i.page_size (memory_plan_of t).images (ranges_of t.module)
  -- each passive segment is found with its bytes, and nothing else is found
  pub passive : (index : ℕ) → Finds (memory_plan_of t).runtime ((memory_plan_of t).passive index) (option_and_then passive_bytes_of (slice_get (segments m) index))
