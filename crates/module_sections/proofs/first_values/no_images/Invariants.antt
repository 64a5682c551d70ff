use Rattle.std.proofs.Common.{◌≡◌, [], map, replicate}
use Rattle.module_sections.proofs.first_values.no_images.Given as goal

-- the images so far have no cells, one for each iteration
abbrev pub invariant-loop : goal.invariant-loop
invariant-loop l = map (λ image. image.items) l.images ≡ replicate l.counter []
