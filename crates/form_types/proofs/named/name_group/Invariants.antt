use Rattle.wasm_spec.specs.TypeData.{map_sub_type}
use Rattle.form_reader.specs.Views.{sub_type_of}
use Rattle.form_types.specs.EarlierTypes.{ids_of}
use Rattle.form_types.specs.Placed.{named_index}
use Rattle.form_types.proofs.InPlace.{Changes}
use Rattle.form_types.proofs.named.name_group.Given as goal

abbrev pub invariant-loop-ty : goal.invariant-loop-ty
invariant-loop-ty l = Changes sub_type_of (map_sub_type (named_index (ids_of l.ids)) (named_index (ids_of l.ids))) l.ty-index l.initial.types l.types
