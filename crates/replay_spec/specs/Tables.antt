-- Which active element segments become images of tables, which images these are, and what a plan
-- leaves in tables.
use Rattle.std.specs.Prelude.{◌≡◌, ℕ, ◌+◌, ◌-◌, ◌<◌, ◌≤◌, ◌==◌, nat_le, ◌&&◌, Bool, IsTrue, List, [], ◌∷◌, ◌++◌, length, map, max, slice_get, All, Option, None, Some, IsSome, is_some, unwrap_or, if◌then◌else◌}
use Rattle.std.specs.Option.{option_and_then}
use Rattle.wasm_spec.specs.declared.operators.Operator.{Operator}
use Rattle.wasm_spec.specs.declared.operators.Operator.TheVariants.{RefNull, RefFunc}
use Rattle.wasm_spec.specs.Module.{Expression}
use Rattle.replay_spec.specs.Phases.{Piece, last_item, Phase, SamePhase}
use Rattle.replay_spec.specs.Values.{Value, I32, I64, Ref, Null, Func, const_value}
use Rattle.replay_spec.specs.Elements.{Items, Functions, Expressions, ActiveElements, DefinedTable, cell_of, elements_piece, elements_phase, table_sizes, table_base}

-- ---- cells of images: the index of a function, or nothing for null

-- the cell of one operator, if it is a function or null
abbrev pub operator_cell : Operator → Option (Option ℕ)
operator_cell (RefFunc index) = Some (Some index)
operator_cell (RefNull type) = Some None
operator_cell _ = None

-- the cell of an expression of one such operator
abbrev pub expression_cell : Expression → Option (Option ℕ)
expression_cell [] = None
expression_cell (op ∷ []) = operator_cell op
expression_cell (op ∷ next ∷ ops) = None

-- items are functions, or expressions with such cells
abbrev pub AreCells : Items (Unit {0}) Expression → Type 0
AreCells (Functions indices) = Unit {0}
AreCells (Expressions type items) = All (λ e. IsSome (expression_cell e)) items

abbrev pub image_cells : Items (Unit {0}) Expression → List (Option ℕ)
image_cells (Functions indices) = map Some indices
image_cells (Expressions type items) = map (λ e. unwrap_or (expression_cell e) None) items

-- ---- offsets that are known

abbrev pub integer_of : Value → Option ℕ
integer_of (I32 n) = Some n
integer_of (I64 n) = Some n
integer_of _ = None

-- the value, as a number, of an offset with a constant value of an integer class
abbrev pub constant_place : Expression → Option ℕ
constant_place e = option_and_then integer_of (const_value e)

-- a segment with such an offset, as cells of an image
abbrev pub image_piece : ActiveElements → Piece (Option ℕ)
image_piece s = record { object = s.table; offset = unwrap_or (constant_place s.offset) 0; items = image_cells s.items }

abbrev pub elements_end : ActiveElements → ℕ
elements_end s = unwrap_or (constant_place s.offset) 0 + length (image_cells s.items)

-- ---- the table image rule; `lazy` says whether images are wanted

-- the largest image, in cells
abbrev pub most_cells : ℕ
most_cells = 1048576

-- an initialiser of one `ref.func`: its function
abbrev pub initial_function : Option Expression → Option ℕ
initial_function None = None
initial_function (Some e) = unwrap_or (expression_cell e) None

-- a table is imaged from the start: its initialiser is one `ref.func`, and it is not larger than an image
abbrev pub is_imaged_from_start : Bool → DefinedTable → Bool
is_imaged_from_start lazy t = lazy && is_some (initial_function t.initial) && nat_le t.minimum most_cells

-- the initialiser that a table keeps: none where it has none, or is imaged from the start
abbrev pub kept_initial : Bool → DefinedTable → Option Expression
kept_initial lazy t = if is_imaged_from_start lazy t then None else t.initial

-- a segment may be in an image: it is on a defined table of functions that keeps no initialiser,
-- its offset is a constant, its items are cells, and it ends within the table and within the
-- largest image
pub record MayBeTaken (lazy : Bool) (imports : ℕ) (tables : List DefinedTable) (s : ActiveElements) : Type 0 where
  pub lazy_tables : IsTrue lazy
  pub table : DefinedTable
  pub defined : imports ≤ s.table
  pub is_table : slice_get tables (s.table - imports) ≡ Some table
  pub functions : IsTrue table.functions
  pub keeps_none : kept_initial lazy table ≡ None
  pub place : ℕ
  pub constant : constant_place s.offset ≡ Some place
  pub items : AreCells s.items
  pub within : place + length (image_cells s.items) ≤ table.minimum
  pub small : place + length (image_cells s.items) ≤ most_cells

-- the segments in images are the longest prefix of all segments in which each may be in an image;
-- the others are kept
pub record TakesPrefix (lazy : Bool) (imports : ℕ) (tables : List DefinedTable) (active taken kept : List ActiveElements) : Type 0 where
  pub parts : active ≡ taken ++ kept
  pub takes : All (MayBeTaken lazy imports tables) taken
  pub longest : (s : ActiveElements) (rest : List ActiveElements) → kept ≡ s ∷ rest → MayBeTaken lazy imports tables s → ⊥

-- the greatest end of the segments on a table, or 0
abbrev pub end_on : ℕ → List ActiveElements → ℕ
end_on table [] = 0
end_on table (s ∷ ss) = if s.table == table then max (elements_end s) (end_on table ss) else end_on table ss

-- the length of an image: the complete table where it is imaged from the start, or else up to the
-- greatest end of its segments in images
abbrev pub image_length : Bool → List ActiveElements → ℕ → DefinedTable → ℕ
image_length lazy taken table t = if is_imaged_from_start lazy t then t.minimum else end_on table taken

-- the image of a table: what the segments in images leave over the function of the initialiser, or
-- over null
pub record IsTableImage (lazy : Bool) (taken : List ActiveElements) (table : ℕ) (t : DefinedTable) (image : List (Option ℕ)) : Type 0 where
  pub reach : length image ≡ image_length lazy taken table t
  pub cells : (place : ℕ) → place < length image
      → slice_get image place ≡ Some (last_item table place (initial_function t.initial) (map image_piece taken))

-- ---- a plan

-- what the cells of a table hold at first: the value of the initialiser that it keeps, or else its
-- image, and null past the image's end
pub record PlannedTable : Type 0 where
  pub minimum : ℕ
  pub initial : Option Expression
  pub image : List (Option ℕ)

-- what a plan says of the defined tables, and the element segments that it keeps to be written
pub record TablePlan : Type 0 where
  pub tables : List PlannedTable
  pub segments : List ActiveElements

-- the plan of the tables and active element segments of a module with a given number of imported tables
pub record IsTablePlan (lazy : Bool) (imports : ℕ) (tables : List DefinedTable) (active : List ActiveElements) (plan : TablePlan) : Type 0 where
  pub taken : List ActiveElements
  pub prefix : TakesPrefix lazy imports tables active taken plan.segments
  pub minimums : map (λ t. t.minimum) plan.tables ≡ map (λ t. t.minimum) tables
  pub initials : map (λ t. t.initial) plan.tables ≡ map (kept_initial lazy) tables
  pub images : (i : ℕ) (t : DefinedTable) (planned : PlannedTable) → slice_get tables i ≡ Some t → slice_get plan.tables i ≡ Some planned
      → IsTableImage lazy taken (imports + i) t planned.image

-- ---- the element phase of a plan

abbrev pub reference_of : Option ℕ → Value
reference_of None = Ref Null
reference_of (Some index) = Ref (Func index)

module _ (globals : List Value) (fields : ℕ → ℕ) where
  abbrev pub planned_cell : Option Expression → List (Option ℕ) → ℕ → Value
  planned_cell None image place = reference_of (unwrap_or (slice_get image place) None)
  planned_cell (Some e) image place = cell_of globals fields e

  abbrev pub planned_first : Option PlannedTable → ℕ → Value
  planned_first None place = Ref Null
  planned_first (Some t) place = planned_cell t.initial t.image place

  abbrev pub planned_elements_phase : List (List Value) → TablePlan → Phase Value
  planned_elements_phase imported plan = record {
    sizes = table_sizes imported (map (λ t. t.minimum) plan.tables);
    base = table_base imported (λ i place. planned_first (slice_get plan.tables i) place);
    pieces = map (elements_piece globals fields) plan.segments;
  }

-- over any values of globals, any struct types, and any contents of a given number of imported
-- tables, the plan leaves what the segments leave, and traps where they trap
abbrev pub AgreesOnTables : ℕ → List DefinedTable → List ActiveElements → TablePlan → Type 0
AgreesOnTables imports tables active plan = (globals : List Value) (fields : ℕ → ℕ) (imported : List (List Value)) → length imported ≡ imports
    → SamePhase (elements_phase globals fields imported tables active) (planned_elements_phase globals fields imported plan)
