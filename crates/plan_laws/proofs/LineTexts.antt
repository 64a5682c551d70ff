-- How many bytes each line has.
use Rattle.std.proofs.Common.{ℕ, cond, get_or, ◌+◌, ◌*◌, ◌^◌, ◌<◌, ◌≤◌, List, [], ◌∷◌, ◌++◌, length, Bool, true, false, Option, Some, None, arith, length-append, lit≤}
use Rattle.std.specs.Prelude.{◌==◌, codes, decimal, All, IfSome}
use Rattle.std.specs.List.{flat_map}
use Rattle.entity_map.specs.Entity.{reserved_number}
use Rattle.entity_map.specs.declared.pool.Atom.{Atom}
use Rattle.wasm_index.specs.declared.index.Index.{Index}
use Rattle.wasm_index.specs.declared.spaces.DefinedGlobalSpace.{DefinedGlobalSpace}
use Rattle.wasm_index.specs.declared.spaces.DefinedTableSpace.{DefinedTableSpace}
use Rattle.wasm_index.specs.declared.spaces.FuncSpace.{FuncSpace}
use Rattle.wasm_index.specs.declared.spaces.ModuleInternedTypeSpace.{ModuleInternedTypeSpace}
use Rattle.wasm_index.specs.declared.spaces.PassiveElemSpace.{PassiveElemSpace}
use Rattle.wasm_index.specs.Index.{number_of}
use Rattle.wasm_types.specs.declared.entity.EntityIndex.{EntityIndex}
use Rattle.wasm_types.specs.declared.entity.EntityIndex.TheVariants as entity
use Rattle.wasm_types.specs.declared.sub.WasmSubType.{WasmSubType}
use Rattle.wasm_types.specs.declared.value.WasmRefType.{WasmRefType}
use Rattle.wasm_types.specs.Texts.{ref_text, sub_text}
use Rattle.wasm_convert.specs.declared.operators.ConstOp.{ConstOp}
use Rattle.wasm_convert.specs.declared.values.GlobalConstValue.{GlobalConstValue}
use Rattle.wasm_convert.specs.declared.values.GlobalConstValue.TheVariants as value
use Rattle.gc_layout.specs.declared.array.GcArrayLayout.{GcArrayLayout}
use Rattle.gc_layout.specs.declared.fields.GcStructLayoutField.{GcStructLayoutField}
use Rattle.gc_layout.specs.Fields.{FieldsLayout}
use Rattle.plan_lines.specs.ContextLines.{region_line}
use Rattle.plan_lines.specs.Expressions.{hexadecimal, expression_text, operator_text}
use Rattle.plan_lines.specs.GlobalLines.{constant_of, global_line, global_expression_line}
use Rattle.plan_lines.specs.LayoutLines.{refs_text, array_layout_line, layout_field_text, fields_layout_line}
use Rattle.plan_lines.specs.NameLines.{quoted_atom, kind_number, entity_text, import_line, export_line, module_name_line, function_name_line}
use Rattle.plan_lines.specs.Numbers.{numbers_line, named_number}
use Rattle.plan_lines.specs.Quoted.{is_plain, quoted_byte, quoted_text}
use Rattle.plan_lines.specs.TableLines.{cell_text, table_image_line, table_image_lines, passive_element_line}
use Rattle.plan_laws.specs.TextCosts.{name_bytes}
use Rattle.plan_lines.specs.TypeLines.{trampoline_text, type_line}
use Rattle.plan_laws.specs.Widths.{ValueFits}
use Rattle.plan_laws.proofs.Lengths.{decimal-narrow, decimal-wide, flat-each}
use Rattle.plan_laws.proofs.OperatorTexts.{length-hexadecimal, operator-short}

-- ---- lines of numbers

pub one-number : (word : List ℕ) (a : ℕ) → a < 2 ^ 64 → length (numbers_line word (a ∷ [])) ≤ length word + 22
unfolding numbers_line
one-number word a h = simp length-append (omega (arith, decimal-wide a h))

pub two-numbers : (word : List ℕ) (a b : ℕ) → a < 2 ^ 64 → b < 2 ^ 64 → length (numbers_line word (a ∷ b ∷ [])) ≤ length word + 43
unfolding numbers_line
two-numbers word a b h i = simp length-append (omega (arith, decimal-wide a h, decimal-wide b i))

pub three-numbers : (word : List ℕ) (a b c : ℕ) → a < 2 ^ 64 → b < 2 ^ 64 → c < 2 ^ 64 → length (numbers_line word (a ∷ b ∷ c ∷ [])) ≤ length word + 64
unfolding numbers_line
three-numbers word a b c h i j = simp length-append (omega (arith, decimal-wide a h, decimal-wide b i, decimal-wide c j))

pub named-short : (words : List ℕ) (n : ℕ) → n < 2 ^ 32 → length (named_number words n) ≤ length words + 11
unfolding named_number
named-short words n h = simp length-append (omega (arith, decimal-narrow n h))

-- ---- types

trampoline-short : (trampoline : Option (Index ModuleInternedTypeSpace)) → IfSome trampoline (λ i. number_of i < 2 ^ 32)
    → length (trampoline_text trampoline) ≤ 22
trampoline-short None h = omega arith
trampoline-short (Some i) h = omega (arith, named-short (codes " trampoline") (number_of i) h)

pub type-line-short : (index : Index ModuleInternedTypeSpace) (t : WasmSubType) (trampoline : Option (Index ModuleInternedTypeSpace)) (n : ℕ)
    → number_of index < 2 ^ 32 → length (sub_text t) ≤ n → IfSome trampoline (λ i. number_of i < 2 ^ 32) → length (type_line index t trampoline) ≤ 39 + n
unfolding type_line
type-line-short index t trampoline n i s k = type-of (decimal (number_of index)) (sub_text t) (trampoline_text trampoline) (decimal-narrow (number_of index) i) s (trampoline-short trampoline k) where
  type-of : (number body tail : List ℕ) → length number ≤ 10 → length body ≤ n → length tail ≤ 22
      → length (codes "type " ++ number ++ codes " " ++ body ++ tail ++ codes "\n") ≤ 39 + n
  type-of number body tail h i j = simp length-append (omega (arith, h, i, j))

-- ---- names

quoted-byte-short : (byte : ℕ) → length (quoted_byte byte) ≤ 3
quoted-byte-short byte = by (is_plain byte) where
  by : (plain : Bool) → length (cond plain (byte ∷ []) (0x5C ∷ hexadecimal 2 byte)) ≤ 3
  by true = lit≤ tt
  by false = omega (arith, length-hexadecimal 2 byte)

pub quoted-short : (bytes : List ℕ) → length (quoted_text bytes) ≤ 2 + 3 * length bytes
quoted-short bytes = simp length-append (omega (arith, flat-each quoted_byte 3 bytes (λ k d lt. quoted-byte-short (get_or bytes k d))))

entity-short : (e : EntityIndex) → kind_number e < 2 ^ 32 → length (entity_text e) ≤ 19
entity-short (entity.Function i) h = simp length-append (omega (arith, decimal-narrow (number_of i) h))
entity-short (entity.Table i) h = simp length-append (omega (arith, decimal-narrow (number_of i) h))
entity-short (entity.Memory i) h = simp length-append (omega (arith, decimal-narrow (number_of i) h))
entity-short (entity.Global i) h = simp length-append (omega (arith, decimal-narrow (number_of i) h))
entity-short (entity.Tag i) h = simp length-append (omega (arith, decimal-narrow (number_of i) h))

pub import-short : (pool : List (List ℕ)) (place : ℕ) (name field : Atom) (e : EntityIndex) → place < 2 ^ 64 → kind_number e < 2 ^ 32
    → length (import_line pool place name field e) ≤ 54 + 3 * (name_bytes pool name + name_bytes pool field)
unfolding import_line
import-short pool place name field e h i =
    import-of (decimal place) (quoted_atom pool name) (quoted_atom pool field) (entity_text e) (name_bytes pool name) (name_bytes pool field)
    (decimal-wide place h) (quoted-short _) (quoted-short _) (entity-short e i) where
      import-of : (number one other end : List ℕ) (m n : ℕ) → length number ≤ 20 → length one ≤ 2 + 3 * m → length other ≤ 2 + 3 * n → length end ≤ 19
          → length (codes "import " ++ number ++ codes " " ++ one ++ codes " " ++ other ++ codes " " ++ end ++ codes "\n") ≤ 54 + 3 * (m + n)
      import-of number one other end m n h i j k = simp length-append (omega (arith, h, i, j, k))

pub export-short : (pool : List (List ℕ)) (name : Atom) (e : EntityIndex) → kind_number e < 2 ^ 32
    → length (export_line pool name e) ≤ 30 + 3 * name_bytes pool name
unfolding export_line
export-short pool name e h = export-of (quoted_atom pool name) (entity_text e) (name_bytes pool name) (quoted-short _) (entity-short e h) where
  export-of : (one end : List ℕ) (m : ℕ) → length one ≤ 2 + 3 * m → length end ≤ 19
      → length (codes "export " ++ one ++ codes " " ++ end ++ codes "\n") ≤ 30 + 3 * m
  export-of one end m h i = simp length-append (omega (arith, h, i))

pub module-name-short : (pool : List (List ℕ)) (name : Atom) → length (module_name_line pool name) ≤ 8 + 3 * name_bytes pool name
unfolding module_name_line
module-name-short pool name = name-of (quoted_atom pool name) (name_bytes pool name) (quoted-short _) where
  name-of : (one : List ℕ) (m : ℕ) → length one ≤ 2 + 3 * m → length (codes "name " ++ one ++ codes "\n") ≤ 8 + 3 * m
  name-of one m h = simp length-append (omega (arith, h))

pub function-name-short : (index : Index FuncSpace) (name : List ℕ) → number_of index < 2 ^ 32 → length (function_name_line index name) ≤ 24 + 3 * length name
unfolding function_name_line
function-name-short index name h = name-of (quoted_text name) (length name) (quoted-short name) where
  name-of : (one : List ℕ) (m : ℕ) → length one ≤ 2 + 3 * m → length (codes "func-name " ++ decimal (number_of index) ++ codes " " ++ one ++ codes "\n") ≤ 24 + 3 * m
  name-of one m i = simp length-append (omega (arith, i, decimal-narrow (number_of index) h))

-- ---- globals

constant-short : (v : GlobalConstValue) → ValueFits v → length (operator_text (constant_of v)) ≤ 45
constant-short (value.I32 n) h = operator-short (constant_of (value.I32 n)) h
constant-short (value.I64 n) h = operator-short (constant_of (value.I64 n)) h
constant-short (value.F32 bits) h = operator-short (constant_of (value.F32 bits)) tt
constant-short (value.F64 bits) h = operator-short (constant_of (value.F64 bits)) tt
constant-short (value.V128 bits) h = operator-short (constant_of (value.V128 bits)) tt

pub global-short : (index : Index DefinedGlobalSpace) (v : GlobalConstValue) → number_of index < 2 ^ 32 → ValueFits v → length (global_line index v) ≤ 64
unfolding global_line
global-short index v h i = global-of (operator_text (constant_of v)) (constant-short v i) where
  global-of : (text : List ℕ) → length text ≤ 45 → length (codes "global " ++ decimal (number_of index) ++ codes " " ++ text ++ codes "\n") ≤ 64
  global-of text j = simp length-append (omega (arith, j, decimal-narrow (number_of index) h))

-- a line that ends with an expression
pub ends-with : (words : List ℕ) (n m : ℕ) (text : List ℕ) → n < 2 ^ 32 → length text ≤ m → length (named_number words n ++ codes " " ++ text ++ codes "\n") ≤ length words + 13 + m
ends-with words n m text h i = simp length-append (omega (arith, named-short words n h, i))

pub global-expression-short : (index : Index DefinedGlobalSpace) (e : List ConstOp) → number_of index < 2 ^ 32 → length (expression_text e) ≤ 47 * length e
    → length (global_expression_line index e) ≤ 24 + 47 * length e
unfolding global_expression_line
global-expression-short index e h i = omega (arith, ends-with (codes "global-expr") (number_of index) (47 * length e) (expression_text e) h i)

-- ---- tables

pub cell-short : (f : Index FuncSpace) → number_of f < 2 ^ 32 → length (cell_text f) ≤ 11
cell-short f h = by (number_of f == reserved_number) where
  by : (reserved : Bool) → length (cond reserved (codes " null") (codes " " ++ decimal (number_of f))) ≤ 11
  by true = lit≤ tt
  by false = simp length-append (omega (arith, decimal-narrow (number_of f) h))

pub image-short : (table : Index DefinedTableSpace) (cells : List (Index FuncSpace)) → number_of table < 2 ^ 32 → length cells < 2 ^ 64
    → All (λ f. number_of f < 2 ^ 32) cells → length (table_image_lines table cells) ≤ 44 + 11 * length cells
unfolding table_image_line
image-short table cells h i all = by (length cells == 0) where
  text-short : length (flat_map cell_text cells) ≤ 11 * length cells
  text-short = flat-each cell_text 11 cells (λ k d lt. cell-short _ (all k d lt))

  image-of : (text : List ℕ) (m : ℕ) → length text ≤ m → length (named_number (codes "table-image") (number_of table) ++ codes " " ++ decimal (length cells) ++ text ++ codes "\n") ≤ 44 + m
  image-of text m j = simp length-append (omega (arith, named-short (codes "table-image") (number_of table) h, decimal-wide (length cells) i, j))

  line-short : length (table_image_line table cells) ≤ 44 + 11 * length cells
  line-short = image-of (flat_map cell_text cells) (11 * length cells) text-short

  by : (empty : Bool) → length (cond empty [] (table_image_line table cells)) ≤ 44 + 11 * length cells
  by true = omega arith
  by false = line-short

pub passive-element-short : (index : Index PassiveElemSpace) (ty : WasmRefType) (count : ℕ) → number_of index < 2 ^ 32 → length (ref_text ty) ≤ 39 → count < 2 ^ 64
    → length (passive_element_line index (ty, count)) ≤ 88
unfolding passive_element_line
passive-element-short index ty count h i j = element-of (ref_text ty) i where
  element-of : (text : List ℕ) → length text ≤ 39 → length (named_number (codes "passive-element") (number_of index) ++ codes " " ++ text ++ codes " " ++ decimal count ++ codes "\n") ≤ 88
  element-of text k = simp length-append (omega (arith, named-short (codes "passive-element") (number_of index) h, decimal-wide count j, k))

-- ---- layouts

refs-short : (refs : Bool) → length (refs_text refs) ≤ 10
refs-short true = lit≤ tt
refs-short false = lit≤ tt

-- the numbers of the layout of an array have 32 bits
pub array-layout-short : (index : Index ModuleInternedTypeSpace) (a : GcArrayLayout) → number_of index < 2 ^ 32 → a.base_size < 2 ^ 32 → a.align < 2 ^ 32 → a.elem_size < 2 ^ 32
    → length (array_layout_line index a) ≤ 85
unfolding array_layout_line
array-layout-short index a h i j k =
    simp length-append (omega (arith, named-short (codes "layout") (number_of index) h, named-short (codes " array base") a.base_size i, named-short (codes " align") a.align j, named-short (codes " element") a.elem_size k, refs-short a.elems_are_gc_refs))

pub layout-field-short : (f : GcStructLayoutField) → f.offset < 2 ^ 32 → length (layout_field_text f) ≤ 12
layout-field-short f h = by f.is_gc_ref where
  by : (ref : Bool) → length (codes " " ++ decimal f.offset ++ cond ref (codes "r") []) ≤ 12
  by true = simp length-append (omega (arith, decimal-narrow f.offset h))
  by false = simp length-append (omega (arith, decimal-narrow f.offset h))

pub fields-layout-short : (index : Index ModuleInternedTypeSpace) (s : FieldsLayout) → number_of index < 2 ^ 32 → s.size < 2 ^ 32 → s.align < 2 ^ 32
    → All (λ f. f.offset < 2 ^ 32) s.fields → length (fields_layout_line index s) ≤ 65 + 12 * length s.fields
unfolding fields_layout_line
fields-layout-short index s h i j all = by s.is_exception where
  layout-of : (words text : List ℕ) (m : ℕ) → length words ≤ 12 → length text ≤ m
      → length (named_number (codes "layout") (number_of index) ++ named_number words s.size ++ named_number (codes " align") s.align ++ codes " fields" ++ text ++ codes "\n") ≤ 65 + m
  layout-of words text m k l =
      simp length-append (omega (arith, named-short (codes "layout") (number_of index) h, named-short words s.size i, named-short (codes " align") s.align j, k, l))

  by : (exception : Bool) → length (named_number (codes "layout") (number_of index) ++ named_number (cond exception (codes " exn size") (codes " struct size")) s.size
      ++ named_number (codes " align") s.align ++ codes " fields" ++ flat_map layout_field_text s.fields ++ codes "\n") ≤ 65 + 12 * length s.fields
  by true = layout-of (codes " exn size") (flat_map layout_field_text s.fields) (12 * length s.fields) (lit≤ tt) (flat-each layout_field_text 12 s.fields (λ k d lt. layout-field-short _ (all k d lt)))
  by false = layout-of (codes " struct size") (flat_map layout_field_text s.fields) (12 * length s.fields) (lit≤ tt) (flat-each layout_field_text 12 s.fields (λ k d lt. layout-field-short _ (all k d lt)))

-- ---- regions

pub region-short : (words : List ℕ) (size : ℕ) → length words ≤ 32 → size < 2 ^ 32 → length (region_line (words, size)) ≤ 51
unfolding region_line
region-short words size h i = simp length-append (omega (arith, named-short (codes "region") size i, h))
