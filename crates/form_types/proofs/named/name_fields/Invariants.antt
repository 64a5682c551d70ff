use Rattle.wasm_spec.specs.TypeData.{field_of, map_field}
use Rattle.form_types.specs.EarlierTypes.{ids_of}
use Rattle.form_types.specs.Placed.{named_index}
use Rattle.form_types.proofs.InPlace.{Changes}
use Rattle.form_types.proofs.named.name_fields.Given as goal

abbrev pub invariant-loop-field : goal.invariant-loop-field
invariant-loop-field l = Changes field_of (map_field (named_index (ids_of l.ids))) l.field-index l.initial.fields l.fields
