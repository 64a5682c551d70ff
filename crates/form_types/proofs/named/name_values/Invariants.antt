use Rattle.wasm_spec.specs.TypeData.{value_of, map_value}
use Rattle.form_types.specs.EarlierTypes.{ids_of}
use Rattle.form_types.specs.Placed.{named_index}
use Rattle.form_types.proofs.InPlace.{Changes}
use Rattle.form_types.proofs.named.name_values.Given as goal

abbrev pub invariant-loop-value : goal.invariant-loop-value
invariant-loop-value l = Changes value_of (map_value (named_index (ids_of l.ids))) l.value-index l.initial.values l.values
