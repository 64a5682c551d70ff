-- The lines of a list of interned types.
use Rattle.std.specs.Prelude.{ℕ, ◌+◌, ◌==◌, List, [], ◌∷◌, ◌++◌, length, Option, Some, None, if◌then◌else◌, codes}
use Rattle.std.specs.declared.ops.Range.{Range}
use Rattle.wasm_index.specs.declared.index.Index.{Index}
use Rattle.wasm_index.specs.declared.spaces.ModuleInternedRecGroupSpace.{ModuleInternedRecGroupSpace}
use Rattle.wasm_index.specs.Index.{number_of, index_of}
use Rattle.wasm_types.specs.declared.sub.WasmSubType.{WasmSubType}
use Rattle.module_types.specs.TypeList.{TypeList}
use Rattle.module_types.specs.Views.{TypeIndex}
use Rattle.plan_lines.specs.Numbers.{numbers_line, keyed_lines}
use Rattle.plan_lines.specs.TypeLines.{type_line}

-- each type with the trampoline at its index, where the first type has a given number
abbrev pub type_lines_from : ℕ → List WasmSubType → List (Option TypeIndex) → List ℕ
type_lines_from n [] trampolines = []
type_lines_from n (type ∷ types) [] = type_line (index_of n) type None ++ type_lines_from (n + 1) types []
type_lines_from n (type ∷ types) (trampoline ∷ others) = type_line (index_of n) type trampoline ++ type_lines_from (n + 1) types others

-- a group: the range of its indices
abbrev pub group_line : Index ModuleInternedRecGroupSpace → Range TypeIndex → List ℕ
group_line index range = numbers_line (codes "group") (number_of index ∷ number_of range.start ∷ number_of range.end ∷ [])

-- how many types there are, each type, and each group
unfoldable pub type_list_lines : TypeList → List ℕ
type_list_lines l =
    numbers_line (codes "types") (length l.types ∷ []) ++ type_lines_from 0 l.types l.trampolines ++ keyed_lines group_line l.groups

-- ---- the trampolines that remain, of which the next is taken where it is that of a type

-- the trampoline that is taken
abbrev pub taken_at : ℕ → List (TypeIndex × TypeIndex) → Option TypeIndex
taken_at n [] = None
taken_at n (next ∷ others) = if number_of next.0 == n then Some next.1 else None

-- those that remain then
abbrev pub left_after : ℕ → List (TypeIndex × TypeIndex) → List (TypeIndex × TypeIndex)
left_after n [] = []
left_after n (next ∷ others) = if number_of next.0 == n then others else next ∷ others
