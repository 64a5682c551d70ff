-- What remains of the initialisation of tables once a part of it is in images.
use Rattle.std.specs.Prelude.{◌≡◌, ℕ, List, drop, get_or}
use Rattle.wasm_convert.specs.declared.constants.ConstExpr.{ConstExpr}
use Rattle.wasm_module.specs.declared.table_initialization.TableInitialization.{TableInitialization}
use Rattle.wasm_module.specs.declared.table_initialization.TableInitialValue.{TableInitialValue}
use Rattle.wasm_module.specs.declared.table_initialization.TableInitialValue.TheVariants as initial

-- each initialiser that remains is the one that was at its position
abbrev pub StandStill : List TableInitialValue → List TableInitialValue → Type 0
StandStill old new = (i : ℕ) (e : ConstExpr) → get_or new i initial.Null ≡ initial.Expr e → get_or old i initial.Null ≡ initial.Expr e

-- the segments from one on, and some of the initialisers: each is the value that was there before
pub record IsLeft (old new : TableInitialization) : Type 0 where
  pub taken : ℕ
  pub segments : new.segments.items ≡ drop taken old.segments.items
  pub initialisers : StandStill old.initial_values new.initial_values
