use Rattle.std.proofs.Common.{refl, sym, subst}
use Rattle.wasm_spec.specs.TypeData.{field_edges, composite_edges, field_of}
use Rattle.form_reader.specs.Views.{composite_of}
use Rattle.rule_breaks.specs.Past.{FindsPast}
use Rattle.rule_breaks.proofs.FirstPast.{past_slice}
use Rattle.rule_breaks.proofs.named.kind_past.Goals as goal

pub returns-in-Struct : goal.returns-in-Struct
returns-in-Struct c =
    subst (λ k. FindsPast c.args.bound (composite_edges (λ i. i) (composite_of k)) c.first_past.result) (sym c.in-Struct.is)
    (past_slice c.args.bound (field_edges (λ i. i)) field_of c.in-Struct.fields.items _ _ _ c.deref.ensures.value refl c.first_past.ensures)
