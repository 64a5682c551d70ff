-- Small tables, element segments and globals, for the worked examples.
use Rattle.std.specs.Prelude.{pos, ℤ, ℕ, List, [], ◌∷◌, true, Option, None, Some}
use Rattle.wasm_spec.specs.declared.operators.Operator.TheVariants.{I32Const, I32Add, GlobalGet, RefFunc, RefNull}
use Rattle.wasm_spec.specs.declared.types.AbstractHeapType.TheVariants as heap
use Rattle.wasm_spec.specs.declared.types.HeapType.TheVariants.{Abstract}
use Rattle.wasm_spec.specs.Module.{Expression}
use Rattle.replay_spec.specs.Values.{I32}
use Rattle.replay_spec.specs.Elements.{Functions, Expressions, ActiveElements, DefinedTable}
use Rattle.replay_spec.specs.Tables.{TablePlan}
use Rattle.replay_spec.specs.Globals.{GlobalPlan}

-- a table of four cells without an initialiser
abbrev pub four_cells : DefinedTable
four_cells = record { minimum = 4; functions = true; initial = None }

abbrev pub functions_at : ℤ → List ℕ → ActiveElements
functions_at offset indices = record { table = 0; offset = I32Const offset ∷ []; items = Functions indices }

abbrev pub expressions_at : ℤ → List Expression → ActiveElements
expressions_at offset items = record { table = 0; offset = I32Const offset ∷ []; items = Expressions tt items }

abbrev pub function : ℕ → Expression
function index = RefFunc index ∷ []

abbrev pub null : Expression
null = RefNull (Abstract heap.Func) ∷ []

-- a function, null, and the function again, from the second cell on
abbrev pub three_cells : ActiveElements
three_cells = expressions_at (pos 1) (function 0 ∷ null ∷ function 0 ∷ [])

-- a cell that is known only when the module is instantiated
abbrev pub from_a_global : ActiveElements
from_a_global = expressions_at (pos 0) ((GlobalGet 0 ∷ []) ∷ [])

-- an image alone
abbrev pub imaged : List (Option ℕ) → TablePlan
imaged image = record { tables = record { minimum = 4; initial = None; image = image } ∷ []; segments = [] }

-- two functions that fit, two that pass the end of the table, and one that would fit again
abbrev pub second_traps : List ActiveElements
second_traps = functions_at (pos 1) (5 ∷ 6 ∷ []) ∷ functions_at (pos 3) (7 ∷ 8 ∷ []) ∷ functions_at (pos 0) (4 ∷ []) ∷ []

-- the plan of these: an image of the first, and the others
abbrev pub first_imaged : TablePlan
first_imaged = record {
  tables = record { minimum = 4; initial = None; image = None ∷ Some 5 ∷ Some 6 ∷ [] } ∷ [];
  segments = functions_at (pos 3) (7 ∷ 8 ∷ []) ∷ functions_at (pos 0) (4 ∷ []) ∷ [];
}

-- one more than the imported global, a constant, and the sum of both
abbrev pub three_globals : List Expression
three_globals = (GlobalGet 0 ∷ I32Const (pos 1) ∷ I32Add ∷ []) ∷ (I32Const (pos 7) ∷ []) ∷ (GlobalGet 1 ∷ GlobalGet 2 ∷ I32Add ∷ []) ∷ []

abbrev pub planned_three : GlobalPlan
planned_three = record {
  count = 3;
  simple = (1, I32 7) ∷ [];
  kept = (0, GlobalGet 0 ∷ I32Const (pos 1) ∷ I32Add ∷ []) ∷ (2, GlobalGet 1 ∷ GlobalGet 2 ∷ I32Add ∷ []) ∷ [];
}
