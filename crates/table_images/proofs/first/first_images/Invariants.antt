use Rattle.std.proofs.Common.{◌≡◌, map, take}
use Rattle.table_images.specs.Steps.{images_of, first_image}
use Rattle.table_images.specs.Views.{defined_tables_of}
use Rattle.table_images.proofs.first.first_images.Given as goal

abbrev pub invariant-tables : goal.invariant-tables
invariant-tables l = images_of l.images ≡ map (first_image l.lazy) (defined_tables_of (take l.i l.tables) (take l.i l.values))
