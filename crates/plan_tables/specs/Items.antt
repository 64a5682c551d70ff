-- What the tables say of the items of element segments.
use Rattle.std.specs.Prelude.{◌≡◌, ℕ, ◌+◌, List, [], ◌∷◌, length, map}
use Rattle.std.specs.List.{flat_map}
use Rattle.wasm_index.specs.declared.index.Index.{Index}
use Rattle.wasm_index.specs.declared.spaces.FuncSpace.{FuncSpace}
use Rattle.wasm_index.specs.Index.{number_of}
use Rattle.wasm_convert.specs.declared.operators.ConstOp.{ConstOp}
use Rattle.wasm_module.specs.declared.table_initialization.TableSegmentElements.{TableSegmentElements}
use Rattle.wasm_module.specs.declared.table_initialization.TableSegmentElements.TheVariants.{Functions, Expressions}
use Rattle.wasm_module.specs.Elements.{element_type}
use Rattle.init_plan.specs.declared.translation.ModuleTranslation.{ModuleTranslation}
use Rattle.plan_tables.specs.declared.record.ElementItemsRecord.{ElementItemsRecord}
use Rattle.plan_tables.specs.declared.record.ItemsRecord.{ItemsRecord}
use Rattle.plan_tables.specs.declared.rows.ItemsRow.{ItemsRow}
use Rattle.plan_tables.specs.Expressions.{TellsExpressions}
use Rattle.plan_tables.specs.Values.{ref_row}

-- the items that are functions
abbrev pub functions_in : TableSegmentElements → List (Index FuncSpace)
functions_in (Functions functions) = functions.items
functions_in (Expressions ty expressions) = []

-- the items that are constant expressions
abbrev pub expressions_in : TableSegmentElements → List (List ConstOp)
expressions_in (Functions functions) = []
expressions_in (Expressions ty expressions) = expressions.items

-- the rows of segments whose functions are behind f others, and whose expressions behind e others
abbrev pub items_rows : ℕ → ℕ → List TableSegmentElements → List ItemsRow
items_rows f e [] = []
items_rows f e (x ∷ xs) = record {
  element = ref_row (element_type x);
  functions = record { begin = f; len = length (functions_in x) };
  expressions = record { begin = e; len = length (expressions_in x) };
} ∷ items_rows (f + length (functions_in x)) (e + length (expressions_in x)) xs

-- the items of each segment of a list
pub record TellsElementItems {X : Type 0} (elements : X → TableSegmentElements) (xs : List X) (r : ElementItemsRecord) : Type 0 where
  pub rows : r.rows.now ≡ items_rows 0 0 (map elements xs)
  pub functions : r.functions.now ≡ flat_map (λ x. map number_of (functions_in (elements x))) xs
  pub expressions : TellsExpressions (λ e. e) (flat_map (λ x. expressions_in (elements x)) xs) r.expressions

pub record TellsItems (t : ModuleTranslation) (r : ItemsRecord) : Type 0 where
  -- of the segments that remain to be written, in order
  pub kept : TellsElementItems (λ s. s.elements) t.table_initialization.segments.items r.kept
  -- of the passive segments, by their numbers
  pub passive : TellsElementItems (λ x. x) t.passive_elements r.passive
