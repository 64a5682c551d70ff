-- Initialisers that keep their positions.
use Rattle.std.proofs.Common.{◌≡◌, ℕ, ◌<◌, List, length, get_or, set, arith}
use Rattle.std.proofs.lemmas.Bool.{cases_eq}
use Rattle.std.proofs.lemmas.List.{get_or-set_same, get_or-set_other}
use Rattle.wasm_convert.specs.declared.constants.ConstExpr.{ConstExpr}
use Rattle.wasm_module.specs.declared.table_initialization.TableInitialValue.{TableInitialValue}
use Rattle.wasm_module.specs.declared.table_initialization.TableInitialValue.TheVariants as initial
use Rattle.table_images.specs.Left.{StandStill}

-- a write of the initialiser that is already there
pub still-step : (old now : List TableInitialValue) (i : ℕ) (v : TableInitialValue) → i < length now
    → ((e : ConstExpr) → v ≡ initial.Expr e → get_or now i initial.Null ≡ initial.Expr e) → StandStill old now → StandStill old (set now i v)
still-step old now i v lt here so_far k e is = grind (arith, cases_eq, get_or-set_same, get_or-set_other)
