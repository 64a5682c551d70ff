use Rattle.std.proofs.Common.{arith, rules}
use Rattle.std.proofs.lemmas.List.Sorted.{All-permutation, Contains-permutation, IsNonDecreasingBy-from_sort_by_key}
use Rattle.memory_images.specs.Sweep.{start_of}
use Rattle.memory_images.proofs.Sweeping.{IsNumber, each_more, numbers_more}
use Rattle.memory_images.proofs.written.starts_of.Goals as goal

pub segments-preserved : goal.segments-preserved
segments-preserved c =
    let inv = c.segments.invariant in
    let t = c.segments-test.true in
    record {
      each = rw c.in_ok-push.ensures.items (each_more c.args.segments.now c.segments.starts.items c.segments.i t inv.each);
      numbers = rw c.in_ok-push.ensures.items (numbers_more c.args.segments.now c.segments.starts.items c.segments.i t inv.numbers);
    }

pub returns : goal.returns
returns c =
    let inv = c.segments.invariant in
    let t = c.segments-test.false in
    let moved = c.in_ok-sort_by_key.ensures.permutation in
    record {
      each = λ k l. Contains-permutation c.segments.starts.items c.sort_by_key.new.self.items (start_of c.args.segments.now k, k) moved (inv.each k (omega arith));
      numbers = All-permutation (IsNumber c.args.segments.now) c.segments.starts.items c.sort_by_key.new.self.items moved inv.numbers;
      rise = IsNonDecreasingBy-from_sort_by_key (λ s. s.0) _ c.in_ok-sort_by_key.ensures.sorted (λ a r q k. search rules);
    }
