use Rattle.std.proofs.Common.{List, map, ap, sym, ◌∙◌}
use Rattle.std.specs.List.{list_all}
use Rattle.wasm_spec.specs.declared.types.FieldType.{FieldType}
use Rattle.wasm_spec.specs.TypeData.{field_of}
use Rattle.form_reader.specs.declared.types.CompositeInnerType.{CompositeInnerType}
use Rattle.form_reader.specs.Views.{composite_of}
use Rattle.rule_spec.specs.Typing.{has_default}
use Rattle.form_rules.specs.Defaults.{defaults_of}
use Rattle.form_rules.proofs.DefaultLemmas.{tells_defaults}
use Rattle.form_rules.proofs.classes.kind_has_defaults.Goals as goal

pub returns-in-Struct : goal.returns-in-Struct
returns-in-Struct c =
    tells_defaults c.all_have_defaults.result c.deref.result.now c.all_have_defaults.ensures
    ∙ ap (λ (fs : List FieldType). list_all has_default (map field_of fs)) c.deref.ensures.value
    ∙ sym (ap (λ (k : CompositeInnerType). defaults_of (composite_of k)) c.in-Struct.is)
