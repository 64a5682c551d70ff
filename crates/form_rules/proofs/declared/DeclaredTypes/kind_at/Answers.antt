use Rattle.form_reader.specs.Views.{sub_type_of}
use Rattle.form_rules.specs.Source.{source_module}
use Rattle.form_rules.proofs.DeclaredKinds.{kind-found, kind-missing}
use Rattle.form_rules.proofs.declared.DeclaredTypes.kind_at.Goals as goal

pub returns-then-index-core_type_count_in_module : goal.returns-then-index-core_type_count_in_module
returns-then-index-core_type_count_in_module c =
    let numbered = rw c.in-Some.is at c.self.invariant in
    rw (← c.self.view_is, c.in-Some.is) (kind-missing (source_module c.in-Some.field-0-1) c.in-Some.types.now numbered c.args.index
    (rw c.core_type_count_in_module.ensures at c.if-index-core_type_count_in_module.true))

pub returns-else-index-core_type_count_in_module : goal.returns-else-index-core_type_count_in_module
returns-else-index-core_type_count_in_module c =
    let numbered = rw c.in-Some.is at c.self.invariant in
    rw (← c.self.view_is, c.in-Some.is) (kind-found (source_module c.in-Some.field-0-1) c.in-Some.types.now numbered c.args.index
    c.core_type_at_in_module-id.result.0 (sub_type_of c.index.result.now) (rw c.core_type_count_in_module.ensures at c.if-index-core_type_count_in_module.false)
    c.core_type_at_in_module-id.ensures.id c.index.ensures)
