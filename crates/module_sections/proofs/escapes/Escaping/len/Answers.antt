use Rattle.std.proofs.Common.{ap, arith}
use Rattle.module_sections.proofs.Numbering.{order-few}
use Rattle.module_sections.proofs.escapes.Escaping.len.Goals as goal

pub returns-clause-few : goal.returns-clause-few
returns-clause-few c =
    let k = c.self.invariant in
    omega (arith, order-few c.self.inside.order.items _ k.once k.met, ap (λ s. s.count) c.self.view_is)
