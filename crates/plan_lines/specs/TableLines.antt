-- The lines of tables: their images, and passive element segments.
use Rattle.std.specs.Prelude.{ℕ, ◌==◌, List, [], ◌++◌, length, if◌then◌else◌, codes, decimal}
use Rattle.std.specs.List.{flat_map}
use Rattle.entity_map.specs.Entity.{reserved_number}
use Rattle.wasm_index.specs.declared.index.Index.{Index}
use Rattle.wasm_index.specs.declared.spaces.DefinedTableSpace.{DefinedTableSpace}
use Rattle.wasm_index.specs.declared.spaces.FuncSpace.{FuncSpace}
use Rattle.wasm_index.specs.declared.spaces.PassiveElemSpace.{PassiveElemSpace}
use Rattle.wasm_index.specs.Index.{number_of}
use Rattle.wasm_types.specs.declared.value.WasmRefType.{WasmRefType}
use Rattle.wasm_types.specs.Texts.{ref_text}
use Rattle.plan_lines.specs.Numbers.{named_number}

-- a cell of an image: a function, or the null reference, which the reserved index represents
abbrev pub cell_text : Index FuncSpace → List ℕ
cell_text f = if number_of f == reserved_number then codes " null" else codes " " ++ decimal (number_of f)

unfoldable pub table_image_line : Index DefinedTableSpace → List (Index FuncSpace) → List ℕ
table_image_line table cells =
    named_number (codes "table-image") (number_of table) ++ codes " " ++ decimal (length cells) ++ flat_map cell_text cells ++ codes "\n"

-- an image without cells has no line
abbrev pub table_image_lines : Index DefinedTableSpace → List (Index FuncSpace) → List ℕ
table_image_lines table cells = if length cells == 0 then [] else table_image_line table cells

-- a passive element segment: the type of its elements, and their number
unfoldable pub passive_element_line : Index PassiveElemSpace → WasmRefType × ℕ → List ℕ
passive_element_line index elements =
    named_number (codes "passive-element") (number_of index) ++ codes " " ++ ref_text elements.0 ++ codes " " ++ decimal elements.1 ++ codes "\n"
