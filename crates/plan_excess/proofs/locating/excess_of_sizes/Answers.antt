use Rattle.std.proofs.Common.{Some, refl}
use Rattle.translate.specs.Options.{options_of}
use Rattle.plan_excess.specs.Excess.{HasEntry, CausesExcess, entry_of}
use Rattle.plan_excess.specs.Large.{IsFirstLarge}
use Rattle.plan_excess.proofs.Causes.{first-listed, first-causes, context-excess}
use Rattle.plan_excess.proofs.Placing.{placed-by, kept-as}
use Rattle.plan_excess.proofs.locating.excess_of_sizes.Goals as goal

pub placed-requires : goal.placed-requires
placed-requires c =
    kept-as c.args.bytes.now (λ m. IsFirstLarge c.args.command.now.collector m (Some c.in-Some.kind)) (λ m. HasEntry m (entry_of c.in-Some.kind))
    (λ m first. first-listed m c.args.command.now.collector c.in-Some.kind first) (rw c.in-Some.is at c.in_ok-kind.ensures)

pub returns-in-Some : goal.returns-in-Some
returns-in-Some c =
    let o = options_of c.args.command.now in
    placed-by o c.args.bytes.now c.in-Some.kind
    (kept-as c.args.bytes.now (λ m. IsFirstLarge c.args.command.now.collector m (Some c.in-Some.kind)) (λ m. CausesExcess o m c.in-Some.kind)
    (λ m first. first-causes m o c.args.command.now.collector c.in-Some.kind refl first) (rw c.in-Some.is at c.in_ok-kind.ensures))
    c.placed.result c.placed.ensures.kind c.placed.ensures.place

pub returns-in-None : goal.returns-in-None
returns-in-None c =
    context-excess (options_of c.args.command.now) c.args.command.now.collector c.args.bytes.now refl c.requires
    (rw c.in-None.is at c.in_ok-kind.ensures)
