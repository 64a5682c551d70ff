use Rattle.std.proofs.Common.{arith}
use Rattle.form_reader.specs.ReadingNumbers.{found_at}
use Rattle.form_reader.proofs.Digits.{wide_weight_small, digit_small, weight_next, step, stop}
use Rattle.form_reader.proofs.numbers.wide_sevens_at.Goals as goal

pub overflow_mul-sum : goal.overflow_mul-sum
overflow_mul-sum c =
    let w = wide_weight_small c.bytes.counter c.bytes.weight c.bytes.invariant.weight_is (omega arith) in
    let d = digit_small c.from.result c.bytes.weight (omega arith) in
    omega arith

pub overflow_add-sum : goal.overflow_add-sum
overflow_add-sum c =
    let w = wide_weight_small c.bytes.counter c.bytes.weight c.bytes.invariant.weight_is (omega arith) in
    let d = digit_small c.from.result c.bytes.weight (omega arith) in
    omega arith

pub overflow_mul-weight : goal.overflow_mul-weight
overflow_mul-weight c =
    let w = wide_weight_small c.bytes.counter c.bytes.weight c.bytes.invariant.weight_is (omega arith) in
    omega arith

pub returns-then-last-lt128-clause-small : goal.returns-then-last-lt128-clause-small
returns-then-last-lt128-clause-small c =
    let w = wide_weight_small c.bytes.counter c.bytes.weight c.bytes.invariant.weight_is (omega arith) in
    let d = digit_small c.from.result c.bytes.weight (omega arith) in
    (omega (arith, c.bytes.invariant.below), omega arith)

pub returns-then-last-lt128-clause-found : goal.returns-then-last-lt128-clause-found
unfolding found_at
returns-then-last-lt128-clause-found c =
    rw c.from.ensures (stop c.bytes.sum c.bytes.weight c.bytes.last 10 c.bytes.counter c.in_ok-byte.byte c.bytes.rest.now
    c.in_ok-byte.after.now _ c.in_ok-byte.ensures (omega arith) c.if-last-lt128.true c.bytes.invariant.so_far)

pub bytes-preserved : goal.bytes-preserved
bytes-preserved c = record {
  weight_is = weight_next c.bytes.counter c.bytes.weight c.bytes.invariant.weight_is;
  below =
      let w = wide_weight_small c.bytes.counter c.bytes.weight c.bytes.invariant.weight_is (omega arith) in
      let d = digit_small c.from.result c.bytes.weight (omega arith) in
      omega (arith, c.bytes.invariant.below);
  so_far = rw c.from.ensures (step c.bytes.sum c.bytes.weight c.bytes.last 10 c.bytes.counter c.in_ok-byte.byte c.bytes.rest.now
      c.in_ok-byte.after.now _ c.in_ok-byte.ensures (omega arith) (omega arith) c.bytes.invariant.so_far);
}
