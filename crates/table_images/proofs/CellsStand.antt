-- Cells as images store them.
use Rattle.std.proofs.Common.{◌≡◌, ℕ, zero, suc, ◌<◌, Bool, List, [], ◌∷◌, length, get_or, map, replicate, All, Option, None, Some, refl, ◌∙◌, ap, arith}
use Rattle.std.specs.Prelude.{unwrap_or, IsSome, IsTrue}
use Rattle.std.specs.Global.{Vec}
use Rattle.std.specs.Option.{option_map}
use Rattle.std.proofs.lemmas.Bool.{ne_eqb}
use Rattle.std.proofs.lemmas.List.{length-map}
use Rattle.std.proofs.lemmas.List.Elements.{All-nil, All-cons, All-head, All-tail, All-map, All-get_or}
use Rattle.wasm_index.specs.declared.index.Index.{Index}
use Rattle.wasm_index.specs.declared.spaces.FuncSpace.{FuncSpace}
use Rattle.wasm_index.specs.Index.{number_of, index_of}
use Rattle.wasm_convert.specs.declared.operators.ConstOp.{ConstOp}
use Rattle.wasm_convert.specs.Constants.{expression_of}
use Rattle.wasm_module.specs.declared.table_initialization.TableSegment.{TableSegment}
use Rattle.wasm_module.specs.declared.table_initialization.TableSegmentElements.{TableSegmentElements}
use Rattle.wasm_module.specs.declared.table_initialization.TableSegmentElements.TheVariants.{Functions, Expressions}
use Rattle.wasm_types.specs.declared.value.WasmRefType.{WasmRefType}
use Rattle.wasm_module.specs.Elements.{element_count}
use Rattle.replay_spec.specs.Elements.{ActiveElements}
use Rattle.replay_spec.specs.Tables.{AreCells, expression_cell, image_cells}
use Rattle.table_images.specs.Steps.{IsCell, AreFunctions, SegmentsHoldFunctions, index_cell}
use Rattle.table_images.specs.Views.{active_elements_of, cell_of, image_of, items_of}

pub cell-function : (f : Index FuncSpace) → number_of f < 4294967295 → cell_of f ≡ Some (number_of f)
cell-function f l = grind (arith, ne_eqb)

pub cell-index : (o : Option ℕ) → IsCell o → cell_of (index_cell o) ≡ o
cell-index o h = grind (arith, cell-function)

pub cells-replicate : (f : Index FuncSpace) (n : ℕ) → image_of (replicate n f) ≡ replicate n (cell_of f)
cells-replicate f zero = refl
cells-replicate f (suc n) = ap (λ xs. cell_of f ∷ xs) (cells-replicate f n)

-- there is a cell for each element
pub length-cells : (elements : TableSegmentElements) → length (image_cells (items_of elements)) ≡ element_count elements
length-cells elements = grind (arith, length-map)

function-at : (fs : List (Index FuncSpace)) (i : ℕ) (x : Index FuncSpace) → i < length (map Some (map number_of fs)) → AreFunctions (map Some (map number_of fs)) → x ≡ get_or fs i x
    → cell_of x ≡ get_or (map Some (map number_of fs)) i None
function-at [] i x l are is = absurd (omega arith)
function-at (f ∷ fs) zero x l are is = ap cell_of is ∙ cell-function f (All-head IsCell (Some (number_of f)) (map Some (map number_of fs)) are)
function-at (f ∷ fs) (suc i) x l are is = function-at fs i x (omega arith) (All-tail IsCell (Some (number_of f)) (map Some (map number_of fs)) are) is

pub at-functions : (elements : TableSegmentElements) (functions : Vec (Index FuncSpace)) → elements ≡ Functions functions → (i : ℕ) (x : Index FuncSpace)
    → i < length (image_cells (items_of elements)) → AreFunctions (image_cells (items_of elements)) → x ≡ get_or functions.items i x
    → cell_of x ≡ get_or (image_cells (items_of elements)) i None
at-functions elements functions e i x l are is = grind (arith, function-at)

abbrev cell_in : List ConstOp → Option ℕ
cell_in e = unwrap_or (expression_cell (expression_of e)) None

abbrev cells_in : List (List ConstOp) → List (Option ℕ)
cells_in es = map (λ e. unwrap_or (expression_cell e) None) (map expression_of es)

found-cell : (o : Option (Option ℕ)) → IsCell (unwrap_or o None) → cell_of (unwrap_or (option_map index_cell o) (index_of 4294967295)) ≡ unwrap_or o None
found-cell o h = grind (arith, cell-index)

expression-at : (es : List (List ConstOp)) (i : ℕ) (x : List ConstOp) → i < length (cells_in es) → AreFunctions (cells_in es) → x ≡ get_or es i x
    → cell_of (unwrap_or (option_map index_cell (expression_cell (expression_of x))) (index_of 4294967295)) ≡ get_or (cells_in es) i None
expression-at [] i x l are is = absurd (omega arith)
expression-at (e ∷ es) zero x l are is = grind (arith, All-head, found-cell)
expression-at (e ∷ es) (suc i) x l are is = expression-at es i x (omega arith) (All-tail IsCell (cell_in e) (cells_in es) are) is

pub at-expressions : (elements : TableSegmentElements) (ty : WasmRefType) (expressions : Vec (List ConstOp)) → elements ≡ Expressions ty expressions → (i : ℕ) (x : List ConstOp) (r : Index FuncSpace)
    → i < length (image_cells (items_of elements)) → AreFunctions (image_cells (items_of elements)) → x ≡ get_or expressions.items i x
    → r ≡ unwrap_or (option_map index_cell (expression_cell (expression_of x))) (index_of 4294967295)
    → cell_of r ≡ get_or (image_cells (items_of elements)) i None
at-expressions elements ty expressions e i x r l are is found = grind (arith, expression-at)

-- a fact of the images of elements holds of the elements
unmapped : {A B : Type 0} (f : A → B) (P : B → Type 0) (xs : List A) → All P (map f xs) → All (λ x. P (f x)) xs
unmapped f P [] h = All-nil (λ x. P (f x))
unmapped f P (x ∷ xs) h = All-cons (λ y. P (f y)) x xs (All-head P (f x) (map f xs) h) (unmapped f P xs (All-tail P (f x) (map f xs) h))

abbrev HasCell : List ConstOp → Type 0
HasCell e = IsSome (expression_cell (expression_of e))

pub are-cells : (elements : TableSegmentElements) (ty : WasmRefType) (expressions : Vec (List ConstOp)) (xs : List (List ConstOp)) (b : Bool) → elements ≡ Expressions ty expressions
    → xs ≡ expressions.items → (IsTrue b → All HasCell xs) × (All HasCell xs → IsTrue b) → (IsTrue b → AreCells (items_of elements)) × (AreCells (items_of elements) → IsTrue b)
are-cells elements ty expressions xs b e is h = grind (arith, All-map (λ x. IsSome (expression_cell x)) expression_of expressions.items, unmapped expression_of (λ x. IsSome (expression_cell x)) expressions.items)

-- the functions of one segment
pub holds-segment : (segments : List TableSegment) (i : ℕ) (s : TableSegment) → s ≡ get_or segments i s → i < length segments → SegmentsHoldFunctions (map active_elements_of segments)
    → AreFunctions (image_cells (items_of s.elements))
holds-segment segments i s is l h = grind (arith, All-get_or (λ (x : TableSegment). AreFunctions (image_cells (items_of x.elements))) segments i s l (unmapped active_elements_of (λ (x : ActiveElements). AreFunctions (image_cells x.items)) segments h))
