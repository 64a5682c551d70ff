use Rattle.std.proofs.Common.{sym, subst}
use Rattle.form_reader.specs.declared.form.ElementKind.{ElementKind}
use Rattle.form_reader.specs.Views.{element_kind_of}
use Rattle.rule_spec.specs.References.{ElementKindRefersIn}
use Rattle.form_rules.proofs.plain.is_plain_kind.Goals as goal

pub returns-then-not-table-clause-refers : goal.returns-then-not-table-clause-refers
returns-then-not-table-clause-refers c = λ types answered.
    subst (λ (k : ElementKind). ElementKindRefersIn types (element_kind_of k)) (sym c.in-Active.is) (c.is_constant.ensures.refers types answered)
