-- Rows of lists that grow at their end.
use Rattle.std.proofs.Common.{◌≡◌, ℕ, ◌+◌, ◌<◌, List, [], ◌∷◌, ◌++◌, length, map, take, get_or, refl, ap, sym, ◌∙◌, subst, arith, append_assoc}
use Rattle.std.proofs.lemmas.Grind.{common_steps, flat_map-append}
use Rattle.std.proofs.lemmas.List.{length-append, length-map, map-append, map_more, append-nil}
use Rattle.std.specs.List.{flat_map}
use Rattle.wasm_spec.specs.Module.{Expression, Element, Segment}
use Rattle.segment_tables.specs.declared.expressions.ExpressionRows.{ExpressionRows}
use Rattle.plan_tables.specs.Spans.{spans_from}
use Rattle.segment_tables.specs.Operators.{operator_row}
use Rattle.segment_tables.specs.Expressions.{HasExpressions}
use Rattle.segment_tables.specs.declared.elements.ElementRows.{ElementRows}
use Rattle.segment_tables.specs.declared.segment_rows.DataSegmentRow.{DataSegmentRow}
use Rattle.segment_tables.specs.declared.segment_rows.ElementSegmentRow.{ElementSegmentRow}
use Rattle.segment_tables.specs.Elements.{functions_in, element_expressions, element_row, element_rows, HasElements}
use Rattle.segment_tables.specs.DataSegments.{data_kind_number, memory_number, data_offsets, data_offset_number, data_told, data_rows, data_expressions, HasSegments}

-- ---- loops

-- the values so far, and that of one more
pub mapped_more : {X Y : Type 0} (f : X → Y) (es : List Y) (xs : List X) (i : ℕ) (x : X) → i < length xs → x ≡ get_or xs i x
    → (es ++ map f (take i xs)) ++ f x ∷ [] ≡ es ++ map f (take (i + 1) xs)
mapped_more f es xs i x lt is = append_assoc es (map f (take i xs)) (f x ∷ []) ∙ ap (λ y. es ++ (map f (take i xs) ++ f y ∷ [])) is ∙ ap (λ ys. es ++ ys) (sym (map_more f xs i x lt))

-- what they list so far, and what one more lists
pub listed_more : {X Y Z : Type 0} (g : Y → List Z) (f : X → Y) (xs : List X) (i : ℕ) (x : X) (zs : List Z) → i < length xs → x ≡ get_or xs i x → zs ≡ g (f x)
    → flat_map g (map f (take i xs)) ++ zs ≡ flat_map g (map f (take (i + 1) xs))
listed_more g f xs i x zs lt is of =
    let next : map f (take (i + 1) xs) ≡ map f (take i xs) ++ f (get_or xs i x) ∷ [] = map_more f xs i x lt in
    let here : zs ≡ g (f (get_or xs i x)) = of ∙ ap (λ y. g (f y)) is in
    ap (λ ys. flat_map g (map f (take i xs)) ++ ys) (here ∙ sym (append-nil (g (f (get_or xs i x)))))
    ∙ sym (flat_map-append g (map f (take i xs)) (f (get_or xs i x) ∷ []))
    ∙ ap (flat_map g) (sym next)

-- ---- parts of one list

-- the parts of one list, and those of the other behind them
pub spans_append : {X Y : Type 0} (f : X → List Y) (len : X → ℕ) (same : (x : X) → length (f x) ≡ len x) (n : ℕ) (xs ys : List X)
    → spans_from n (map len (xs ++ ys)) ≡ spans_from n (map len xs) ++ spans_from (n + length (flat_map f xs)) (map len ys)
spans_append f len same n [] ys = grind (arith, common_steps)
spans_append f len same n (x ∷ xs) ys =
    let rest : spans_from (n + len x) (map len (xs ++ ys)) ≡ spans_from (n + len x) (map len xs) ++ spans_from (n + len x + length (flat_map f xs)) (map len ys)
    = spans_append f len same (n + len x) xs ys in
    let here : length (f x) ≡ len x = same x in
    grind (arith, common_steps)

-- as many parts as lengths
pub spans_length : (n : ℕ) (lens : List ℕ) → length (spans_from n lens) ≡ length lens
spans_length n [] = refl
spans_length n (len ∷ lens) = grind (arith, spans_length (n + len) lens)

-- a list of what each gives, and what one more gives
pub listed_push : {X Y : Type 0} (f : X → List Y) (xs : List X) (x : X) → flat_map f xs ++ f x ≡ flat_map f (xs ++ x ∷ [])
listed_push f xs x = ap (λ ys. flat_map f xs ++ ys) (sym (append-nil (f x))) ∙ sym (flat_map-append f xs (x ∷ []))

-- one expression more
pub has_expression : (old new : ExpressionRows) (es : List Expression) (e : Expression) (at n : ℕ) → HasExpressions es old
    → at ≡ length old.operators.items → n ≡ length e
    → new.parts.items ≡ old.parts.items ++ (record { begin = at; len = n }) ∷ []
    → new.operators.items ≡ old.operators.items ++ map operator_row e
    → HasExpressions (es ++ e ∷ []) new
has_expression old new es e at n has place count parts operators = record {
  parts =
      let more : spans_from 0 (map length (es ++ e ∷ [])) ≡ spans_from 0 (map length es) ++ spans_from (0 + length (flat_map (map operator_row) es)) (map length (e ∷ []))
      = spans_append (map operator_row) length (λ x. length-map x operator_row) 0 es (e ∷ []) in
      let begin : at ≡ 0 + length (flat_map (map operator_row) es) = grind (arith, place ∙ ap length has.operators) in
      parts ∙ ap (λ ps. ps ++ (record { begin = at; len = n }) ∷ []) has.parts
      ∙ ap (λ k. spans_from 0 (map length es) ++ (record { begin = k; len = n }) ∷ []) begin
      ∙ ap (λ k. spans_from 0 (map length es) ++ (record { begin = 0 + length (flat_map (map operator_row) es); len = k }) ∷ []) count
      ∙ sym more;
  operators = operators ∙ ap (λ os. os ++ map operator_row e) has.operators ∙ listed_push (map operator_row) es e;
}

-- as many parts as expressions
pub expressions_length : (es : List Expression) (rows : ExpressionRows) → HasExpressions es rows → length rows.parts.items ≡ length es
expressions_length es rows has = ap length has.parts ∙ spans_length 0 (map length es) ∙ length-map es length

-- ---- segments

pub element_rows_more : (f n : ℕ) (es : List Element) (e : Element)
    → element_rows f n (es ++ e ∷ []) ≡ element_rows f n es ++ element_row (f + length (flat_map (λ e. functions_in e.items) es)) (n + length (flat_map element_expressions es)) e ∷ []
element_rows_more f n [] e = grind (arith, common_steps)
element_rows_more f n (x ∷ xs) e =
    let rest = element_rows_more (f + length (functions_in x.items)) (n + length (element_expressions x)) xs e in
    let fs : f + length (functions_in x.items) + length (flat_map (λ e. functions_in e.items) xs) ≡ f + length (flat_map (λ e. functions_in e.items) (x ∷ xs))
    = rw (length-append (functions_in x.items) (flat_map (λ e. functions_in e.items) xs)) (omega arith) in
    let ns : n + length (element_expressions x) + length (flat_map element_expressions xs) ≡ n + length (flat_map element_expressions (x ∷ xs))
    = rw (length-append (element_expressions x) (flat_map element_expressions xs)) (omega arith) in
    ap (λ rows. element_row f n x ∷ rows) (rest ∙ ap (λ (k : ℕ × ℕ). element_rows (f + length (functions_in x.items)) (n + length (element_expressions x)) xs ++ element_row k.0 k.1 e ∷ [])
    (λ i. (fs i, ns i)))

pub data_rows_more : (n : ℕ) (ss : List Segment) (s : Segment)
    → data_rows n (ss ++ s ∷ []) ≡ data_rows n ss ++ (data_kind_number s.kind, memory_number s.kind, data_offset_number (n + length (data_expressions ss)) s.kind, s.bytes) ∷ []
data_rows_more n [] s = grind (arith, common_steps)
data_rows_more n (x ∷ xs) s =
    let rest = data_rows_more (n + length (data_offsets x.kind)) xs s in
    let ns : n + length (data_offsets x.kind) + length (data_expressions xs) ≡ n + length (data_expressions (x ∷ xs))
    = rw (length-append (data_offsets x.kind) (data_expressions xs)) (omega arith) in
    ap (λ rows. (data_kind_number x.kind, memory_number x.kind, data_offset_number n x.kind, x.bytes) ∷ rows)
    (rest ∙ ap (λ k. data_rows (n + length (data_offsets x.kind)) xs ++ (data_kind_number s.kind, memory_number s.kind, data_offset_number k s.kind, s.bytes) ∷ []) ns)

-- ---- one segment more

pub has_element : (out out' : ElementRows) (r r' : ExpressionRows) (es : List Element) (e : Element) (row : ElementSegmentRow) → HasElements es out r
    → row ≡ element_row (length out.functions.items) (length (flat_map element_expressions es)) e
    → out'.rows.items ≡ out.rows.items ++ row ∷ []
    → out'.functions.items ≡ out.functions.items ++ functions_in e.items
    → HasExpressions (flat_map element_expressions es ++ element_expressions e) r'
    → HasElements (es ++ e ∷ []) out' r'
has_element out out' r r' es e row has is rows functions expressions = record {
  rows =
      let fs : length out.functions.items ≡ 0 + length (flat_map (λ e. functions_in e.items) es) = grind (arith, ap length has.functions) in
      let ns : length (flat_map element_expressions es) ≡ 0 + length (flat_map element_expressions es) = omega arith in
      rows ∙ ap (λ xs. xs ++ row ∷ []) has.rows
      ∙ ap (λ x. element_rows 0 0 es ++ x ∷ []) (is ∙ ap (λ k. element_row k (length (flat_map element_expressions es)) e) fs
      ∙ ap (λ k. element_row (0 + length (flat_map (λ e. functions_in e.items) es)) k e) ns)
      ∙ sym (element_rows_more 0 0 es e);
  functions = functions ∙ ap (λ xs. xs ++ functions_in e.items) has.functions ∙ listed_push (λ e. functions_in e.items) es e;
  expressions = subst (λ xs. HasExpressions xs r') (listed_push element_expressions es e) expressions;
}

pub has_segment : (out out' : List DataSegmentRow) (r r' : ExpressionRows) (es : List Expression) (ss : List Segment) (s : Segment) (row : DataSegmentRow)
    → HasSegments es ss out r
    → data_told row ≡ (data_kind_number s.kind, memory_number s.kind, data_offset_number (length (es ++ data_expressions ss)) s.kind, s.bytes)
    → out' ≡ out ++ row ∷ []
    → HasExpressions ((es ++ data_expressions ss) ++ data_offsets s.kind) r'
    → HasSegments es (ss ++ s ∷ []) out' r'
has_segment out out' r r' es ss s row has is rows expressions = record {
  rows =
      ap (map data_told) rows ∙ map-append data_told out (row ∷ []) ∙ ap (λ xs. xs ++ data_told row ∷ []) has.rows
      ∙ ap (λ x. data_rows (length es) ss ++ x ∷ [])
      (is ∙ ap (λ k. (data_kind_number s.kind, memory_number s.kind, data_offset_number k s.kind, s.bytes)) (length-append es (data_expressions ss)))
      ∙ sym (data_rows_more (length es) ss s);
  expressions =
      subst (λ xs. HasExpressions xs r')
      (append_assoc es (data_expressions ss) (data_offsets s.kind) ∙ ap (λ xs. es ++ xs) (listed_push (λ s. data_offsets s.kind) ss s)) expressions;
}
