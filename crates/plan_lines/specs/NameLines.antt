-- The lines of names: imports, exports, and those of the name section.
use Rattle.std.specs.Prelude.{◌<◌, ℕ, List, [], ◌++◌, length, slice_get, unwrap_or, Option, Some, None, codes, decimal}
use Rattle.entity_map.specs.Pool.{atom_number}
use Rattle.entity_map.specs.declared.pool.Atom.{Atom}
use Rattle.wasm_index.specs.declared.index.Index.{Index}
use Rattle.wasm_index.specs.declared.spaces.FuncSpace.{FuncSpace}
use Rattle.wasm_index.specs.Index.{number_of}
use Rattle.wasm_types.specs.declared.entity.EntityIndex.{EntityIndex}
use Rattle.wasm_types.specs.declared.entity.EntityIndex.TheVariants as entity
use Rattle.plan_lines.specs.Quoted.{quoted_text}

-- the atom has a text in a pool
abbrev pub IsInPool : List (List ℕ) → Atom → Type 0
IsInPool pool atom = atom_number atom < length pool

-- the text of an atom of a pool, between quotes
abbrev pub quoted_atom : List (List ℕ) → Atom → List ℕ
quoted_atom pool atom = quoted_text (unwrap_or (slice_get pool (atom_number atom)) [])

-- the index of an entity among those of its kind
abbrev pub kind_number : EntityIndex → ℕ
kind_number (entity.Function i) = number_of i
kind_number (entity.Table i) = number_of i
kind_number (entity.Memory i) = number_of i
kind_number (entity.Global i) = number_of i
kind_number (entity.Tag i) = number_of i

-- an entity, by its kind
abbrev pub entity_text : EntityIndex → List ℕ
entity_text (entity.Function i) = codes "function " ++ decimal (number_of i)
entity_text (entity.Table i) = codes "table " ++ decimal (number_of i)
entity_text (entity.Memory i) = codes "memory " ++ decimal (number_of i)
entity_text (entity.Global i) = codes "global " ++ decimal (number_of i)
entity_text (entity.Tag i) = codes "tag " ++ decimal (number_of i)

-- an import: its index among the imports, the name of the module from which it comes, its own name,
-- and its entity
unfoldable pub import_line : List (List ℕ) → ℕ → Atom → Atom → EntityIndex → List ℕ
import_line pool place name field e =
    codes "import " ++ decimal place ++ codes " " ++ quoted_atom pool name ++ codes " " ++ quoted_atom pool field ++ codes " " ++ entity_text e ++ codes "\n"

-- an export: its name and its entity
unfoldable pub export_line : List (List ℕ) → Atom → EntityIndex → List ℕ
export_line pool name e = codes "export " ++ quoted_atom pool name ++ codes " " ++ entity_text e ++ codes "\n"

unfoldable pub module_name_line : List (List ℕ) → Atom → List ℕ
module_name_line pool name = codes "name " ++ quoted_atom pool name ++ codes "\n"

abbrev pub module_name_lines : List (List ℕ) → Option Atom → List ℕ
module_name_lines pool None = []
module_name_lines pool (Some name) = module_name_line pool name

-- the name has a text in a pool, where there is one
abbrev pub HasName : List (List ℕ) → Option Atom → Type 0
HasName pool None = Unit {0}
HasName pool (Some name) = IsInPool pool name

unfoldable pub function_name_line : Index FuncSpace → List ℕ → List ℕ
function_name_line index name = codes "func-name " ++ decimal (number_of index) ++ codes " " ++ quoted_text name ++ codes "\n"
