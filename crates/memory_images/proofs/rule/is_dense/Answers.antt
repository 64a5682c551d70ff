use Rattle.std.proofs.Common.{◌≡◌, ◌∙◌, arith}
use Rattle.std.proofs.lemmas.List.{take_all}
use Rattle.replay_spec.specs.Images.{extent, data_size}
use Rattle.memory_images.proofs.Dense.{extent_same, data_same}
use Rattle.memory_images.proofs.rule.is_dense.Goals as goal

pub returns : goal.returns
returns c = λ ss same.
    let whole = take_all c.laid.x-index c.args.laid.now c.laid-test.false in
    let low = rw whole at c.laid.invariant.low in
    let high = rw whole at c.laid.invariant.high in
    let count = rw whole at c.laid.invariant.bytes in
    let s = c.saturating_sub.ensures in
    let extent_is : c.saturating_sub.result ≡ extent ss = omega (arith, low, high, s, extent_same c.args.laid.now ss same c.requires) in
    let count_is : c.laid.count ≡ data_size ss = count ∙ data_same c.args.laid.now ss same c.requires in
    rw (← extent_is, ← count_is) c.is_close.ensures
