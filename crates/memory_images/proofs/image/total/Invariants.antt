use Rattle.std.proofs.Common.{◌≡◌, ◌+◌, ◌-◌, ◌^◌, take, min, sum_by}
use Rattle.memory_images.specs.Images.{span_size}
use Rattle.memory_images.proofs.image.total.Given as goal

abbrev pub invariant-sizes : goal.invariant-sizes
invariant-sizes l = l.total ≡ min (l.passive + sum_by span_size (take l.span-index l.spans)) (2 ^ 64 - 1)
