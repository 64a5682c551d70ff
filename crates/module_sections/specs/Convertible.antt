-- When an expression can be converted, and its references recorded.
use Rattle.std.specs.Prelude.{ℕ, ◌<◌, All, length}
use Rattle.wasm_spec.specs.declared.types.UnpackedIndex.{UnpackedIndex}
use Rattle.wasm_spec.specs.Module.{Expression}
use Rattle.wasm_convert.specs.Operators.{KnowsOperator}
use Rattle.module_sections.specs.Escapes.{referred}

-- it has an operator, what its operators name is known, and each function is below the number of
-- functions
pub record IsConvertible (known : UnpackedIndex → Type 0) (functions : ℕ) (e : Expression) : Type 0 where
  pub some : 0 < length e
  pub operators : All (KnowsOperator known) e
  pub in_range : All (λ function. function < functions) (referred e)
