use Rattle.std.proofs.Common.{◌≡◌, ◌≤◌, ◌-◌, ◌++◌, length, None}
use Rattle.std.specs.Prelude.{replicate, vec_len, vec_capacity}
use Rattle.type_registry.proofs.room.fill.Given as goal

abbrev pub invariant-loop-place : goal.invariant-loop-place
invariant-loop-place l = record {
  long : vec_len l.kept ≡ l._place;
  within : l.room ≤ vec_capacity l.kept;
  last : l._place - length l.fn.kept.items ≤ l.room - length l.fn.kept.items;
  items : l.kept.items ≡ l.fn.kept.items ++ replicate (l._place - length l.fn.kept.items) None;
}
