use Rattle.std.proofs.Common.{◌≡◌, ◌+◌, ◌<◌, ◌^◌, take, sum_by}
use Rattle.memory_images.specs.Images.{span_size}
use Rattle.memory_images.proofs.image.span_past.Given as goal

-- the sizes so far do not pass
abbrev pub invariant-sizes : goal.invariant-sizes
invariant-sizes l = record { total : l.total ≡ l.passive + sum_by span_size (take l.m l.spans); fits : l.total < 2 ^ 32 }
