use Rattle.rule_breaks.specs.declared.lists.ModuleList.TheVariants as list
use Rattle.rule_breaks.specs.Listed.{IsListed}
use Rattle.translate.specs.Options.{options_of}
use Rattle.plan_excess.specs.declared.kinds.ExcessKind.TheVariants as kind
use Rattle.plan_excess.specs.Excess.{HasEntry, CausesExcess, entry_of}
use Rattle.plan_excess.specs.Past.{PassesWithImage}
use Rattle.plan_excess.proofs.Placing.{placed-by, kept-as}
use Rattle.plan_excess.proofs.locating.excess_of_data.Goals as goal

pub placed-requires : goal.placed-requires
placed-requires c =
    let o = options_of c.args.command.now in
    let k = c.in_ok-memory.memory in
    kept-as c.args.bytes.now (λ m. PassesWithImage o.init m k × IsListed m list.Memories k) (λ m. HasEntry m (entry_of (kind.Image k))) (λ m fact. fact.1)
    c.in_ok-memory.ensures

pub returns : goal.returns
returns c =
    let o = options_of c.args.command.now in
    let k = c.in_ok-memory.memory in
    placed-by o c.args.bytes.now (kind.Image k)
    (kept-as c.args.bytes.now (λ m. PassesWithImage o.init m k × IsListed m list.Memories k) (λ m. CausesExcess o m (kind.Image k)) (λ m fact. fact.0)
    c.in_ok-memory.ensures)
    c.placed.result c.placed.ensures.kind c.placed.ensures.place
