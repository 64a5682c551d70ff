-- Element segments as rows (core specification, 2.5, element segments).
use Rattle.std.specs.Prelude.{◌≡◌, ℕ, ◌+◌, List, [], ◌∷◌, ◌++◌, length, true, unwrap_or}
use Rattle.std.specs.List.{flat_map}
use Rattle.wasm_spec.specs.declared.types.AbstractHeapType.TheVariants.{Func}
use Rattle.wasm_spec.specs.declared.types.HeapType.TheVariants.{Abstract}
use Rattle.wasm_spec.specs.declared.types.RefType.{RefType}
use Rattle.wasm_spec.specs.Module.{Expression, ElementKind, PassiveElement, ActiveElement, DeclaredElement, ElementItems, Functions, Expressions, Element}
use Rattle.segment_tables.specs.declared.segment_rows.ElementSegmentRow.{ElementSegmentRow}
use Rattle.segment_tables.specs.declared.elements.ElementRows.{ElementRows}
use Rattle.segment_tables.specs.declared.expressions.ExpressionRows.{ExpressionRows}
use Rattle.segment_tables.specs.Expressions.{HasExpressions}
use Rattle.plan_tables.specs.Bodies.{read_ref_row}

abbrev pub kind_number : ElementKind → ℕ
kind_number PassiveElement = 0
kind_number (ActiveElement table offset) = 1
kind_number DeclaredElement = 2

-- the table that it writes: the first one unless it names one
abbrev pub table_number : ElementKind → ℕ
table_number (ActiveElement table offset) = unwrap_or table 0
table_number _ = 0

-- the offset of an active one
abbrev pub offsets_in : ElementKind → List Expression
offsets_in (ActiveElement table offset) = offset ∷ []
offsets_in _ = []

-- the number of its offset, behind n other expressions
abbrev pub offset_number : ℕ → ElementKind → ℕ
offset_number n (ActiveElement table offset) = n
offset_number n _ = 0

-- functions are of type `funcref`
abbrev pub item_type : ElementItems → RefType
item_type (Functions indices) = record { nullable = true; heap = Abstract Func }
item_type (Expressions type items) = type

-- whether items are written as constant expressions
abbrev pub expressed_bit : ElementItems → ℕ
expressed_bit (Functions indices) = 0
expressed_bit (Expressions type items) = 1

abbrev pub functions_in : ElementItems → List ℕ
functions_in (Functions indices) = indices
functions_in (Expressions type items) = []

abbrev pub expressions_in : ElementItems → List Expression
expressions_in (Functions indices) = []
expressions_in (Expressions type items) = items

-- its offset, and then its items
abbrev pub element_expressions : Element → List Expression
element_expressions e = offsets_in e.kind ++ expressions_in e.items

-- a segment whose functions are behind f others, and whose expressions behind n others
abbrev pub element_row : ℕ → ℕ → Element → ElementSegmentRow
element_row f n e = record {
  kind = kind_number e.kind;
  table = table_number e.kind;
  offset = offset_number n e.kind;
  element = read_ref_row (item_type e.items);
  expressed = expressed_bit e.items;
  functions = record { begin = f; len = length (functions_in e.items) };
  expressions = record { begin = n + length (offsets_in e.kind); len = length (expressions_in e.items) };
}

abbrev pub element_rows : ℕ → ℕ → List Element → List ElementSegmentRow
element_rows f n [] = []
element_rows f n (e ∷ es) = element_row f n e ∷ element_rows (f + length (functions_in e.items)) (n + length (element_expressions e)) es

-- the segments have these rows, functions and expressions, while there are more to come
pub record HasElements (es : List Element) (out : ElementRows) (r : ExpressionRows) : Type 0 where
  pub rows : out.rows.items ≡ element_rows 0 0 es
  pub functions : out.functions.items ≡ flat_map (λ e. functions_in e.items) es
  pub expressions : HasExpressions (flat_map element_expressions es) r
