use Rattle.std.proofs.Common.{sym, subst}
use Rattle.form_reader.specs.declared.form.DataKind.{DataKind}
use Rattle.form_reader.specs.Views.{data_kind_of}
use Rattle.rule_spec.specs.References.{DataKindRefersIn}
use Rattle.form_rules.proofs.plain.is_plain_segment.Goals as goal

pub returns-then-not-memory-clause-refers : goal.returns-then-not-memory-clause-refers
returns-then-not-memory-clause-refers c = λ types answered.
    subst (λ (k : DataKind). DataKindRefersIn types (data_kind_of k)) (sym c.in-Active.is) (c.is_constant.ensures.refers types answered)
