use Rattle.std.proofs.Common.{◌∙◌, ap, arith}
use Rattle.module_types.specs.Builder.{BuilderState}
use Rattle.module_types.proofs.ListedLists.{listed}
use Rattle.module_types.proofs.builder.ModuleTypesBuilder.finish.Goals as goal

pub returns-clause-listed : goal.returns-clause-listed
returns-clause-listed c =
    let kept = c.self.invariant (ap (λ (b : BuilderState). b.is_poisoned) c.self.view_is ∙ c.requires) in
    let w = kept.1.well_named in
    listed c.self.inside.interner.list (record { orderly = w.orderly; earlier = w.earlier; kinds = w.kinds })
    (omega (arith, c.len_types-count.ensures.count, c.len_types-count.ensures.below))
