-- Small modules for the worked example of faults.
use Rattle.std.specs.Prelude.{[], ◌∷◌}
use Rattle.wasm_spec.specs.Module.{Module, Types, FunctionTypes}
use Rattle.rule_spec.specs.Worked.{alone, nothing_to_nothing}

-- two functions, of type 0 and of type 7, and one type
abbrev pub function_of_type_7 : Module
function_of_type_7 = Types (alone nothing_to_nothing ∷ []) ∷ FunctionTypes (0 ∷ 7 ∷ []) ∷ []
