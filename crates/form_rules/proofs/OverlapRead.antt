-- The result of reading the worked bytes.
use Rattle.std.proofs.Common.{◌≡◌, Ok, Err, refl, sym, ◌∙◌, inl, inr}
use Rattle.std.specs.Prelude.{take}
use Rattle.wasm_spec.specs.declared.operators.What.{What}
use Rattle.wasm_spec.specs.declared.operators.What.TheVariants as what
use Rattle.wasm_spec.specs.Module.{Module}
use Rattle.wasm_spec.specs.Grammar.{Spells}
use Rattle.wasm_spec.specs.Interfaces.{HasNoInterfaceTypes}
use Rattle.form_reader.specs.Reading.{Bad, Stops, raw_bytes_at, elements_at, whole}
use Rattle.form_reader.specs.ReadingNumbers.{found_at, unsigned_at, signed_at, vector_at, counted_bytes_at, sized_at}
use Rattle.form_reader.specs.ReadingSections.{sections_at, module_at}
use Rattle.form_reader.specs.ExpressionLaws.{operators_at}
use Rattle.form_reader.specs.ExpressionRows.{operator_after, constant_after, arithmetic_after}
use Rattle.form_reader.specs.TypeRows.{memory_type, flagged_memory_type, global_type, value_type, value_after, mutability}
use Rattle.form_reader.specs.SectionRows.{active_segment, flagged_segment, data_segment, global_entry, section_contents, section}
use Rattle.form_reader.specs.Agrees.{ok_not_err, bad_not_stops}
use Rattle.form_reader.proofs.SectionLaws.{module_found, module_again}
use Rattle.rule_spec.specs.WorkedKept.{overlapping, overlap_bytes}
use Rattle.form_rules.specs.Worked.{unlisted_operator_bytes, component_bytes}

pub read-overlap : module_at overlap_bytes ≡ Ok overlapping
unfolding module_at sections_at section section_contents memory_type flagged_memory_type data_segment flagged_segment active_segment operators_at operator_after constant_after arithmetic_after raw_bytes_at elements_at whole found_at unsigned_at signed_at vector_at counted_bytes_at sized_at
read-overlap = refl

pub read-cut : module_at (take 29 overlap_bytes) ≡ Err Bad
unfolding module_at sections_at section section_contents memory_type flagged_memory_type data_segment flagged_segment active_segment operators_at operator_after constant_after arithmetic_after raw_bytes_at elements_at whole found_at unsigned_at signed_at vector_at counted_bytes_at sized_at
read-cut = refl

pub read-operator : module_at unlisted_operator_bytes ≡ Err (Stops what.Operator)
unfolding module_at sections_at section section_contents global_entry global_type value_type value_after mutability operators_at operator_after constant_after arithmetic_after raw_bytes_at elements_at whole found_at unsigned_at signed_at vector_at counted_bytes_at sized_at
read-operator = refl

pub read-component : module_at component_bytes ≡ Err (Stops what.Component)
unfolding module_at
read-component = refl

pub overlap-spelled : Spells overlap_bytes overlapping × HasNoInterfaceTypes overlapping
overlap-spelled = module_found overlap_bytes overlapping read-overlap

pub cut-unspelled : (m : Module) → Spells (take 29 overlap_bytes) m → ⊥
cut-unspelled m s = elim (module_again (take 29 overlap_bytes) m s) [
  | inl read ↦ ok_not_err m Bad (sym read ∙ read-cut)
  | inr stops ↦ bad_not_stops stops.1.0 (sym read-cut ∙ stops.1.1)
]
