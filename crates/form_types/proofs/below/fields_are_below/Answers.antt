use Rattle.std.proofs.Common.{rules}
use Rattle.wasm_spec.specs.TypeData.{field_of}
use Rattle.form_types.specs.Below.{FieldIsBelow}
use Rattle.form_types.proofs.AllOf.{tells_of_map}
use Rattle.form_types.proofs.below.fields_are_below.Goals as goal

pub returns : goal.returns
returns c = tells_of_map (FieldIsBelow c.args.bound) field_of c.args.fields.now c.all.result (search rules)
