use Rattle.std.proofs.Common.{◌≡◌, ◌≤◌, ◌*◌, ◌^◌, take}
use Rattle.memory_images.proofs.Dense.{low_of, high_of, data_of}
use Rattle.memory_images.proofs.rule.is_dense.Given as goal

abbrev pub invariant-laid : goal.invariant-laid
invariant-laid l = record {
  low : l.low ≡ low_of (take l.x-index l.laid);
  high : l.high ≡ high_of (take l.x-index l.laid);
  bytes : l.count ≡ data_of (take l.x-index l.laid);
  small : l.count ≤ l.x-index * 2 ^ 64;
}
