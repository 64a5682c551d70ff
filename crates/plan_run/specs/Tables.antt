-- Tables as a plan begins them, and what is written to them.
use Rattle.std.specs.Prelude.{◌≡◌, ℕ, ◌-◌, List, ◌++◌, length, map, replicate, All, Option, None, Some}
use Rattle.std.specs.Global.{Vec}
use Rattle.wasm_spec.specs.Module.{Expression}
use Rattle.replay_spec.specs.Elements.{cell_of}
use Rattle.replay_spec.specs.Phases.{Piece}
use Rattle.replay_spec.specs.Tables.{PlannedTable, reference_of}
use Rattle.replay_spec.specs.Values as plain
use Rattle.replay_spec.specs.Values.{Term}
use Rattle.plan_run.specs.declared.elements.ElementPiece.{ElementPiece}
use Rattle.plan_run.specs.declared.value.Value.{Value}
use Rattle.plan_run.specs.declared.value.Node.{Node}
use Rattle.plan_run.specs.Values.{values_in, terms_of, NamesBelow}

abbrev pub cells_in : List Term → List (Vec Value) → List (List plain.Value)
cells_in terms tables = map (λ table. values_in terms table.items) tables

abbrev pub TablesBelow : ℕ → List (Vec Value) → Type 0
TablesBelow k tables = All (λ table. All (NamesBelow k) table.items) tables

-- tables hold these cells, over the nodes
pub record TablesMean (nodes : List Node) (tables : List (Vec Value)) (meant : List (List plain.Value)) : Type 0 where
  pub below : TablesBelow (length nodes) tables
  pub are : cells_in (terms_of nodes) tables ≡ meant

-- the cells that an image gives a table of a minimum size
abbrev pub image_cells : ℕ → List (Option ℕ) → List plain.Value
image_cells minimum image = map reference_of image ++ replicate (minimum - length image) (reference_of None)

-- the first cells of a table: the value of its initialiser, or its image
module _ (globals : List plain.Value) (fields : ℕ → ℕ) where
  abbrev pub cells_from : ℕ → Option Expression → List (Option ℕ) → List plain.Value
  cells_from minimum None image = image_cells minimum image
  cells_from minimum (Some e) image = replicate minimum (cell_of globals fields e)

  abbrev pub first_cells : PlannedTable → List plain.Value
  first_cells t = cells_from t.minimum t.initial t.image

-- ---- what is written

abbrev pub element_piece : List Term → ElementPiece → Piece plain.Value
element_piece terms p = record { object = p.table; offset = p.place; items = values_in terms p.items.items }

-- pieces are these, over the nodes
pub record PiecesMean (nodes : List Node) (pieces : List ElementPiece) (meant : List (Piece plain.Value)) : Type 0 where
  pub below : All (λ p. All (NamesBelow (length nodes)) p.items.items) pieces
  pub are : map (element_piece (terms_of nodes)) pieces ≡ meant
