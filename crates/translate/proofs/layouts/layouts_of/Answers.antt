use Rattle.std.proofs.Common.{◌≡◌, ◌∙◌, Err, ap, sym, arith}
use Rattle.std.proofs.lemmas.Result.{err_from_is_err_and}
use Rattle.translate.proofs.LayoutsInTurn.{laid-none, laid-more, laid-fewer, laid-large, laid-all, laid-small, overflow-only}
use Rattle.translate.proofs.layouts.layouts_of.Goals as goal

pub loop-ty-init : goal.loop-ty-init
loop-ty-init g c = rw c.new-layouts.ensures (laid-none g.L.GcTypeLayouts.header_size _ c.args.types.now.types c.into_iter-ty-iterator.result
    (c.into_iter-ty-iterator.ensures.into_iter_gives ∙ c.wasm_types-ty-items.ensures))

pub returns-in_err-gc_layout-clause-overflow : goal.returns-in_err-gc_layout-clause-overflow
returns-in_err-gc_layout-clause-overflow g c = λ is.
    let p = err_from_is_err_and c.from_residual.result c.from_residual.ensures.1 in
    laid-large g.L.GcTypeLayouts.header_size c.loop-ty.invariant c.in-Some.ensures.steps
    (c.gc_layout.ensures.overflow (c.in_err-gc_layout.was ∙ ap Err (overflow-only c.in_err-gc_layout.field-0.0 _ p.2 (let e : Err p.0 ≡ _ = sym p.1 ∙ is in cc))))

pub push-requires : goal.push-requires
push-requires g c = omega (arith, laid-fewer g.L.GcTypeLayouts.header_size c.loop-ty.invariant c.in-Some.ensures.steps, c.requires)

pub loop-ty-preserved : goal.loop-ty-preserved
loop-ty-preserved g c = rw c.in_ok-push.ensures.ok (laid-more g.L.GcTypeLayouts.header_size c.loop-ty.invariant c.in-Some.ensures.steps c.in_ok-gc_layout.field-0
    c.in_ok-gc_layout.ensures.exact c.in_ok-gc_layout.ensures.fits)

pub returns-clause-layouts : goal.returns-clause-layouts
returns-clause-layouts g c = laid-all g.L.GcTypeLayouts.header_size c.loop-ty.invariant c.in-None.ensures.steps.0

pub returns-clause-fits : goal.returns-clause-fits
returns-clause-fits g c = laid-small g.L.GcTypeLayouts.header_size c.loop-ty.invariant c.in-None.ensures.steps.0
