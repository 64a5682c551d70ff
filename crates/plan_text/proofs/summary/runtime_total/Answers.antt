use Rattle.std.proofs.Common.{◌≡◌, ◌+◌, ◌-◌, ◌<◌, ℕ, take, length, Some, get_or, sum_by, subst, ap, ◌∙◌, arith}
use Rattle.std.specs.Prelude.{slice_get}
use Rattle.std.specs.declared.ops.Range.{Range}
use Rattle.std.proofs.lemmas.List.{take_all}
use Rattle.std.proofs.lemmas.List.Sums.{sum_by_more}
use Rattle.std.proofs.lemmas.Option.{get_or_from_slice_get}
use Rattle.plan_text.proofs.summary.runtime_total.Goals as goal

abbrev size : Range ℕ → ℕ
size range = range.end - range.start

pub returns : goal.returns
returns c = c.loop-number.invariant.sum ∙ ap (sum_by size) (take_all c.loop-number.number c.args.plan.now.translation.module.runtime_data (omega (arith, c.loop-number-test.false, c.len-number-end.ensures.length)))

pub overflow_add-total : goal.overflow_add-total
overflow_add-total c = omega (arith, c.loop-number.invariant.bound, c.from-total.ensures, c.saturating_sub.type_inv, c.loop-number-test.true, c.len-number-end.ensures.below)

pub loop-number-preserved : goal.loop-number-preserved
loop-number-preserved c =
    let ranges = c.args.plan.now.translation.module.runtime_data in
    let range = c.index-range.result.now in
    let below : c.loop-number.number < length ranges = omega (arith, c.loop-number-test.true, c.len-number-end.ensures.length) in
    let found : get_or ranges c.loop-number.number range ≡ range =
    get_or_from_slice_get ranges c.loop-number.number range range (subst (λ n. slice_get ranges n ≡ Some range) (ap (λ i. i.number) c.from_u32.ensures) c.index-range.ensures) in
    let more : sum_by size (take (c.loop-number.number + 1) ranges) ≡ sum_by size (take c.loop-number.number ranges) + size range =
    subst (λ (r : Range ℕ). sum_by size (take (c.loop-number.number + 1) ranges) ≡ sum_by size (take c.loop-number.number ranges) + size r) found
    (sum_by_more size ranges c.loop-number.number range below) in
    record {
      within = omega (arith, below);
      sum = omega (arith, c.loop-number.invariant.sum, more, c.from-total.ensures, c.saturating_sub.ensures);
      bound = omega (arith, c.loop-number.invariant.bound, c.from-total.ensures, c.saturating_sub.type_inv);
    }
