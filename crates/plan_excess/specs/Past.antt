-- Which memory's image makes the runtime data too large.
use Rattle.std.specs.Prelude.{ℕ, length, map, sum_by}
use Rattle.wasm_spec.specs.Module.{Module, imported_memories, defined_memories}
use Rattle.replay_spec.specs.Held.{held_segments}
use Rattle.replay_spec.specs.Images.{image_memory_of}
use Rattle.memory_images.specs.Past.{ImagesPassAt}
use Rattle.translate.specs.Options.{InitOptions, images, passive_bytes}

-- all active segments become images, and the image of this memory is the first that, with those
-- before it and the passive segments, passes 4294967295 bytes
abbrev pub PassesWithImage : InitOptions → Module → ℕ → Type 0
PassesWithImage i m memory = ImagesPassAt (images i) (length (imported_memories m)) (map image_memory_of (defined_memories m)) (held_segments m)
    (sum_by length (passive_bytes m)) memory
