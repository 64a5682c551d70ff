use Rattle.std.proofs.Common.{◌≡◌, ◌++◌}
use Rattle.std.specs.List.{flat_map}
use Rattle.plan_lines.specs.Numbers.{keyed_lines}
use Rattle.plan_lines.specs.TableLines.{table_image_lines}
use Rattle.plan_lines.proofs.table_lines.append_table_images.Given as goal

abbrev pub invariant-loop-table : goal.invariant-loop-table
invariant-loop-table l = l.text ++ flat_map (λ p. table_image_lines p.0 p.1.items) l.table-iterator
    ≡ l.initial.text ++ keyed_lines (λ table image. table_image_lines table image.items) l.images
