-- The lines of a module's record that are not in a file of their own.
use Rattle.std.specs.Prelude.{ℕ, ◌+◌, ◌==◌, Bool, List, [], ◌∷◌, ◌++◌, length, Option, Some, None, if◌then◌else◌, codes}
use Rattle.entity_map.specs.Entity.{reserved_number}
use Rattle.wasm_index.specs.declared.index.Index.{Index}
use Rattle.wasm_index.specs.declared.spaces.FuncSpace.{FuncSpace}
use Rattle.wasm_index.specs.Index.{number_of}
use Rattle.wasm_module.specs.declared.function.FunctionType.{FunctionType}
use Rattle.wasm_module.specs.declared.initializer.Initializer.{Initializer}
use Rattle.wasm_module.specs.declared.initializer.Initializer.TheVariants.{Import}
use Rattle.wasm_module.specs.declared.startup.ModuleStartup.{ModuleStartup}
use Rattle.wasm_module.specs.declared.startup.ModuleStartup.TheVariants as startup
use Rattle.wasm_module.specs.declared.module.Module.{Module}
use Rattle.plan_lines.specs.Numbers.{numbers_line, counts_line}
use Rattle.plan_lines.specs.NameLines.{IsInPool, import_line}
use Rattle.plan_lines.specs.TypeLines.{listed_number}

-- the names of an import have texts in a pool
abbrev pub HasNames : List (List ℕ) → Initializer → Type 0
HasNames pool (Import name field e) = IsInPool pool name × IsInPool pool field

-- an import of a module, with its index among the imports
abbrev pub initializer_line : List (List ℕ) → ℕ → Initializer → List ℕ
initializer_line pool place (Import name field e) = import_line pool place name field e

-- all imports of a module, of which the first has index n
abbrev pub initializer_lines_from : List (List ℕ) → ℕ → List Initializer → List ℕ
initializer_lines_from pool n [] = []
initializer_lines_from pool n (i ∷ is) = initializer_line pool n i ++ initializer_lines_from pool (n + 1) is

-- how many entities of each kind are imported, and how many are defined
unfoldable pub count_lines : Module → List ℕ
count_lines m =
    counts_line (codes "functions") m.num_imported_funcs (length m.functions)
    ++ counts_line (codes "tables") m.num_imported_tables (length m.tables)
    ++ counts_line (codes "memories") m.num_imported_memories (length m.memories)
    ++ counts_line (codes "globals") m.num_imported_globals (length m.globals)
    ++ counts_line (codes "tags") m.num_imported_tags (length m.tags)

abbrev pub gc_heap_line : Bool → List ℕ
gc_heap_line needed = if needed then codes "gc-heap yes\n" else codes "gc-heap no\n"

-- a function that escapes, and its index among those; other functions have no line
abbrev pub escape_lines : Index FuncSpace → FunctionType → List ℕ
escape_lines index function =
    if number_of function.func_ref == reserved_number then [] else numbers_line (codes "escape") (number_of index ∷ number_of function.func_ref ∷ [])

-- the start function, where there is one
abbrev pub start_lines : Option (Index FuncSpace) → List ℕ
start_lines None = []
start_lines (Some function) = numbers_line (codes "start") (number_of function ∷ [])

-- when the startup function runs, and its type
abbrev pub startup_line : ModuleStartup → List ℕ
startup_line startup.None = codes "startup none\n"
startup_line (startup.Always ty) = numbers_line (codes "startup always") (listed_number ty ∷ [])
startup_line (startup.IfMemoriesNeedInit ty) = numbers_line (codes "startup if-memories-need-init") (listed_number ty ∷ [])
