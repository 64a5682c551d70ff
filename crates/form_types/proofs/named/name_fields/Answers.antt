use Rattle.wasm_spec.specs.TypeData.{field_of, map_field}
use Rattle.form_types.specs.EarlierTypes.{ids_of}
use Rattle.form_types.specs.Placed.{named_index}
use Rattle.form_types.proofs.InPlace.{one_changed}
use Rattle.form_types.proofs.named.name_fields.Goals as goal

pub loop-field-preserved : goal.loop-field-preserved
loop-field-preserved c =
    one_changed field_of (map_field (named_index (ids_of c.args.ids.now))) c.loop-field.field-index c.args.fields.now c.loop-field.fields _
    c.named_field.result c.loop-field-test.true c.named_field.ensures c.loop-field.invariant
