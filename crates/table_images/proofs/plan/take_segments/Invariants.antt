use Rattle.std.proofs.Common.{◌≡◌, true, [], length, map, take}
use Rattle.table_images.specs.Steps.{AreTableImages, images_of}
use Rattle.table_images.specs.Views.{active_elements_of, defined_tables_of}
use Rattle.table_images.proofs.plan.take_segments.Given as goal

-- the segments so far are in the images
abbrev pub invariant-segments : goal.invariant-segments
invariant-segments l = record {
  count : length l.images ≡ length l.fn.images;
  images : AreTableImages true l.imported (defined_tables_of l.tables l.values) [] (images_of l.fn.images)
      → AreTableImages true l.imported (defined_tables_of l.tables l.values) (map active_elements_of (take l.i l.segments)) (images_of l.images);
}
