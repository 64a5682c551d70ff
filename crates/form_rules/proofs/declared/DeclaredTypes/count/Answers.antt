use Rattle.std.proofs.Common.{◌∙◌}
use Rattle.form_rules.specs.Source.{source_module}
use Rattle.form_rules.proofs.DeclaredKinds.{declared-count}
use Rattle.form_rules.proofs.declared.DeclaredTypes.count.Goals as goal

pub returns-in-Some : goal.returns-in-Some
returns-in-Some c =
    rw (← c.self.view_is, c.in-Some.is) (c.core_type_count_in_module.ensures
    ∙ declared-count (source_module c.in-Some.field-0-1) c.in-Some.types.now (rw c.in-Some.is at c.self.invariant))
