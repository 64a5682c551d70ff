-- Small instantiations, for the worked examples.
use Rattle.std.specs.Prelude.{ℕ, pos, false, List, [], ◌∷◌, ◌==◌, None, if◌then◌else◌}
use Rattle.wasm_spec.specs.declared.entities.MemoryType.{MemoryType}
use Rattle.wasm_spec.specs.declared.entities.TableType.{TableType}
use Rattle.wasm_spec.specs.declared.entities.TypeRef.{TypeRef}
use Rattle.wasm_spec.specs.declared.entities.TypeRef.TheVariants as imported
use Rattle.wasm_spec.specs.declared.operators.Operator.TheVariants as op
use Rattle.wasm_spec.specs.Module.{Module, Import, Segment, Active, Imports, Elements, Segments, ActiveElement, Functions}
use Rattle.rule_spec.specs.Worked.{functions_only}
use Rattle.rule_spec.specs.WorkedKept.{one_page}
use Rattle.replay_spec.specs.Values.{Value, Ref, Host}
use Rattle.instance_laws.specs.Objects.{Objects, Addresses}
use Rattle.instance_laws.specs.Instances.{Instance, instantiated}
use Rattle.instance_laws.specs.Recipes.{recipe_of_module}

-- ---- what is there already: a memory of one page with zeros at address 7, and a table at address
-- 3, whose two cells another instance filled with a reference of its own

abbrev pub one_memory : Objects ℕ
one_memory = record { sizes = λ at. if at == 7 then 65536 else 0; items = λ at place. 0 }

abbrev pub two_cells : Objects Value
two_cells = record { sizes = λ at. if at == 3 then 2 else 0; items = λ at place. Ref (Host 42) }

abbrev pub no_tables : Addresses
no_tables = record { imported = []; first = 4 }

abbrev pub that_table : Addresses
that_table = record { imported = 3 ∷ []; first = 4 }

abbrev pub that_memory_twice : Addresses
that_memory_twice = record { imported = 7 ∷ 7 ∷ []; first = 8 }

abbrev pub that_memory : Addresses
that_memory = record { imported = 7 ∷ []; first = 8 }

-- an instance of a module that imports no global
abbrev pub instance_of : Addresses → Addresses → Module → Instance
instance_of table_addresses memory_addresses m =
    instantiated table_addresses memory_addresses two_cells one_memory (recipe_of_module m [])

-- ---- modules

-- an import of the module `m`, whose own name is one letter
abbrev pub import_as : ℕ → TypeRef → Import
import_as letter type = record { space = 0x6D ∷ []; name = letter ∷ []; type = type }

abbrev pub two_cells_of_functions : TableType
two_cells_of_functions = record { element_type = functions_only; table64 = false; initial = 2; maximum = None }

-- bytes that are written to a memory
abbrev pub written_to : ℕ → ℕ → List ℕ → Segment
written_to memory offset bytes = record { kind = Active memory (op.I32Const (pos offset) ∷ []); bytes = bytes }

-- it imports two memories, `a` and `b`, and writes 1, 2, 3 at 16 of the first and 9 at 17 of the
-- second
abbrev pub two_names : Module
two_names = Imports (import_as 0x61 (imported.Memory one_page) ∷ import_as 0x62 (imported.Memory one_page) ∷ [])
    ∷ Segments (written_to 0 16 (1 ∷ 2 ∷ 3 ∷ []) ∷ written_to 1 17 (9 ∷ []) ∷ []) ∷ []

-- it imports a table of two cells and a memory, and writes functions from a cell of the table on, 7
-- at 16 of the memory, and 8 at an offset
abbrev pub filling : ℕ → List ℕ → ℕ → Module
filling cell functions place = Imports (import_as 0x74 (imported.Table two_cells_of_functions) ∷ import_as 0x61 (imported.Memory one_page) ∷ [])
    ∷ Elements (record { kind = ActiveElement None (op.I32Const (pos cell) ∷ []); items = Functions functions } ∷ [])
    ∷ Segments (written_to 0 16 (7 ∷ []) ∷ written_to 0 place (8 ∷ []) ∷ []) ∷ []
