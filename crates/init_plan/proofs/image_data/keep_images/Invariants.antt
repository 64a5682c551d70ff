use Rattle.std.proofs.Common.{◌≡◌, ◌+◌, ◌≤◌, ◌++◌, length, map}
use Rattle.std.specs.Option.{option_map}
use Rattle.std.specs.Vec.Iter.{into_iter_items}
use Rattle.wasm_index.specs.Index.{number_of}
use Rattle.replay_spec.specs.Images.{image_map, entries_of, image_bytes}
use Rattle.memory_images.specs.Images.{images_of}
use Rattle.init_plan.specs.Views.{bytes_of, planned_segment_of}
use Rattle.init_plan.proofs.image_data.keep_images.Given as goal

-- the images kept so far, with what the remaining images become, are what all images become
abbrev pub invariant-loop-image : goal.invariant-loop-image
invariant-loop-image l = record {
  room : length l.runtime_data + length (into_iter_items l.image-iterator) ≤ length l.fn.runtime_data + length l.fn.images.items;
  memories : length l.by_memory + length (into_iter_items l.image-iterator) ≡ length l.fn.images.items;
  in_map : map (option_map (λ image. (image.0, number_of image.1))) l.by_memory ++ image_map (length l.runtime_data) (images_of (into_iter_items l.image-iterator))
      ≡ image_map (length l.fn.runtime_data) (images_of l.fn.images.items);
  in_list : map planned_segment_of l.listed.items ++ entries_of (length l.by_memory) (image_map (length l.runtime_data) (images_of (into_iter_items l.image-iterator)))
      ≡ entries_of 0 (image_map (length l.fn.runtime_data) (images_of l.fn.images.items));
  bytes : map bytes_of l.runtime_data ++ image_bytes (images_of (into_iter_items l.image-iterator))
      ≡ map bytes_of l.fn.runtime_data ++ image_bytes (images_of l.fn.images.items);
}
