-- What each step of the planner decides and writes.
use Rattle.std.specs.Prelude.{◌≡◌, ◌≢◌, ℕ, ◌+◌, ◌-◌, ◌≤◌, ◌<◌, Bool, true, IsTrue, List, [], ◌++◌, length, map, replicate, max, All, slice_get, unwrap_or, Option, None, Some, IfSome, if◌then◌else◌}
use Rattle.std.specs.Global.{Vec}
use Rattle.wasm_index.specs.declared.index.Index.{Index}
use Rattle.wasm_index.specs.declared.spaces.FuncSpace.{FuncSpace}
use Rattle.wasm_index.specs.Index.{number_of, index_of}
use Rattle.wasm_types.specs.declared.table.Table.{Table}
use Rattle.wasm_module.specs.declared.table_initialization.TableInitialValue.{TableInitialValue}
use Rattle.wasm_module.specs.declared.table_initialization.TableSegment.{TableSegment}
use Rattle.wasm_convert.specs.Constants.{expression_of}
use Rattle.replay_spec.specs.Phases.{item_at}
use Rattle.replay_spec.specs.Elements.{ActiveElements, DefinedTable}
use Rattle.replay_spec.specs.Tables.{AreCells, image_cells, constant_place, most_cells, initial_function, is_imaged_from_start, kept_initial, MayBeTaken, IsTableImage}
use Rattle.table_images.specs.declared.spot.Spot.{Spot}
use Rattle.table_images.specs.Views.{image_of, items_of, defined_table_of}

-- a function that an image can hold: the greatest 32-bit number represents null
abbrev pub IsCell : Option ℕ → Type 0
IsCell cell = IfSome cell (λ function. function < 4294967295)

abbrev pub AreFunctions : List (Option ℕ) → Type 0
AreFunctions cells = All IsCell cells

-- all functions in the items of segments, and in the initialisers of tables
abbrev pub SegmentsHoldFunctions : List ActiveElements → Type 0
SegmentsHoldFunctions active = All (λ s. AreFunctions (image_cells s.items)) active

abbrev pub TablesHoldFunctions : List DefinedTable → Type 0
TablesHoldFunctions tables = All (λ t. IsCell (initial_function t.initial)) tables

-- a cell as an image stores it
abbrev pub index_cell : Option ℕ → Index FuncSpace
index_cell None = index_of 4294967295
index_cell (Some function) = index_of function

-- the table and the position where a segment may be written into an image
pub record IsSpot (imported : ℕ) (tables : List Table) (values : List TableInitialValue) (s : TableSegment) (spot : Spot) : Type 0 where
  pub table : Table
  pub value : TableInitialValue
  pub defined : imported ≤ number_of s.table_index
  pub number : spot.table ≡ number_of s.table_index - imported
  pub is_table : slice_get tables (number_of s.table_index - imported) ≡ Some table
  pub is_value : slice_get values (number_of s.table_index - imported) ≡ Some value
  pub functions : IsTrue (defined_table_of table value).functions
  pub keeps_none : kept_initial true (defined_table_of table value) ≡ None
  pub cells : AreCells (items_of s.elements)
  pub place : constant_place (expression_of s.offset) ≡ Some spot.place
  pub within : spot.place + length (image_cells (items_of s.elements)) ≤ table.limits.min
  pub small : spot.place + length (image_cells (items_of s.elements)) ≤ most_cells

-- cells are written over an image that reaches their end
pub record OverlaysCells (place : ℕ) (cells old new : List (Option ℕ)) : Type 0 where
  pub reach : length new ≡ length old
  pub cells_at : (p : ℕ) → p < length new → slice_get new p
      ≡ Some (unwrap_or (item_at 0 p (record { object = 0; offset = place; items = cells })) (unwrap_or (slice_get old p) None))

-- cells are written over an image, which grows with nulls to their end
pub record LaysCells (place : ℕ) (cells old new : List (Option ℕ)) : Type 0 where
  pub reach : length new ≡ max (length old) (place + length cells)
  pub cells_at : (p : ℕ) → p < length new → slice_get new p
      ≡ Some (unwrap_or (item_at 0 p (record { object = 0; offset = place; items = cells })) (unwrap_or (slice_get old p) None))

-- an image that is extended with nulls to an end
abbrev pub grown : ℕ → List (Option ℕ) → List (Option ℕ)
grown end image = image ++ replicate (end - length image) None

-- the images of tables, each as plain cells
abbrev pub images_of : List (Vec (Index FuncSpace)) → List (List (Option ℕ))
images_of images = map (λ image. image_of image.items) images

-- cells are written over the image of one table
pub record LaysAt (table place : ℕ) (cells : List (Option ℕ)) (old new : List (List (Option ℕ))) : Type 0 where
  pub count : length new ≡ length old
  pub here : (v w : List (Option ℕ)) → slice_get old table ≡ Some v → slice_get new table ≡ Some w → LaysCells place cells v w
  pub there : (k : ℕ) → k ≢ table → slice_get new k ≡ slice_get old k

-- the image of a table before any segment is written
abbrev pub first_image : Bool → DefinedTable → List (Option ℕ)
first_image lazy t = if is_imaged_from_start lazy t then replicate t.minimum (initial_function t.initial) else []

-- the images once these segments are in them
pub record AreTableImages (lazy : Bool) (imports : ℕ) (tables : List DefinedTable) (taken : List ActiveElements) (images : List (List (Option ℕ))) : Type 0 where
  pub count : length images ≡ length tables
  pub takes : All (MayBeTaken lazy imports tables) taken
  pub each : (i : ℕ) (t : DefinedTable) (image : List (Option ℕ)) → slice_get tables i ≡ Some t → slice_get images i ≡ Some image
      → IsTableImage lazy taken (imports + i) t image
