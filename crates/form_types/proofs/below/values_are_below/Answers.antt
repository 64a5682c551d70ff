use Rattle.std.proofs.Common.{rules}
use Rattle.wasm_spec.specs.TypeData.{value_of}
use Rattle.rule_spec.specs.TypeRules.{ValueIsBelow}
use Rattle.form_types.proofs.AllOf.{tells_of_map}
use Rattle.form_types.proofs.below.values_are_below.Goals as goal

pub returns : goal.returns
returns c = tells_of_map (ValueIsBelow c.args.bound) value_of c.args.types.now c.all.result (search rules)
