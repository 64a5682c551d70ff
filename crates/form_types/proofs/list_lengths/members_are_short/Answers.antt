use Rattle.std.proofs.Common.{rules}
use Rattle.wasm_spec.specs.Sizes.{HasShortLists}
use Rattle.form_reader.specs.Views.{sub_type_of}
use Rattle.form_types.proofs.AllOf.{tells_of_map}
use Rattle.form_types.proofs.list_lengths.members_are_short.Goals as goal

pub returns : goal.returns
returns c = tells_of_map HasShortLists sub_type_of c.args.types.now c.all.result (search rules)
