use Rattle.wasm_spec.specs.TypeData.{value_of, map_value}
use Rattle.form_types.specs.EarlierTypes.{ids_of}
use Rattle.form_types.specs.Placed.{named_index}
use Rattle.form_types.proofs.InPlace.{one_changed}
use Rattle.form_types.proofs.named.name_values.Goals as goal

pub loop-value-preserved : goal.loop-value-preserved
loop-value-preserved c =
    one_changed value_of (map_value (named_index (ids_of c.args.ids.now))) c.loop-value.value-index c.args.values.now c.loop-value.values _
    c.named_value.result c.loop-value-test.true c.named_value.ensures c.loop-value.invariant
