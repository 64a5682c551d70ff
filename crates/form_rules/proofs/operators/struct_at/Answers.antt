use Rattle.std.proofs.Common.{◌∙◌, map, sym, ap}
use Rattle.std.specs.Option.{option_map}
use Rattle.wasm_spec.specs.TypeData.{field_of}
use Rattle.type_spec.specs.TypeShapes.{option-twice}
use Rattle.form_reader.specs.Views.{composite_of}
use Rattle.rule_spec.specs.Lists.{kind_at}
use Rattle.rule_spec.specs.Typing.{field_class}
use Rattle.form_rules.specs.Views.{lists_of}
use Rattle.form_rules.proofs.UnnamedKinds.{struct-classes}
use Rattle.form_rules.proofs.operators.struct_at.Goals as goal

pub returns-in-Some : goal.returns-in-Some
returns-in-Some c =
    sym (option-twice (λ fields. map field_of fields.now) (map field_class) c.struct_fields.result)
    ∙ ap (option_map (map field_class)) c.struct_fields.ensures
    ∙ struct-classes (composite_of c.in-Some.kind.now) (kind_at (lists_of c.args.lists.now) c.args.index) c.in-Some.ensures
