-- Small modules, for the worked examples.
use Rattle.std.specs.Prelude.{ℕ, false, true, List, [], ◌∷◌, None, Some}
use Rattle.wasm_spec.specs.declared.operators.Operator.TheVariants.{RefFunc}
use Rattle.wasm_spec.specs.declared.types.AbstractHeapType.TheVariants as heap
use Rattle.wasm_spec.specs.declared.types.HeapType.TheVariants.{Abstract}
use Rattle.wasm_spec.specs.declared.types.RefType.{RefType}
use Rattle.wasm_spec.specs.declared.types.ValType.TheVariants as value
use Rattle.wasm_spec.specs.declared.entities.TypeRef.TheVariants as imported
use Rattle.wasm_spec.specs.declared.entities.ExternalKind.TheVariants as kind
use Rattle.wasm_spec.specs.TypeData.{Func}
use Rattle.wasm_spec.specs.Module.{Module, Types, Imports, FunctionTypes, Tables, Globals, Exports, Elements, GlobalDef, Element, Functions, DeclaredElement}

abbrev pub function_reference : RefType
function_reference = record { nullable = true; heap = Abstract heap.Func }

-- a global that is one of functions, with its initialiser
abbrev pub global_of_functions : ℕ → GlobalDef
global_of_functions function = record { type = record { content_type = value.Ref function_reference; mutable = false }; init = RefFunc function ∷ [] }

abbrev pub declared_functions : List ℕ → Element
declared_functions functions = record { kind = DeclaredElement; items = Functions functions }

-- one type of functions; one imported function; six functions after it, of which an initialiser of
-- a table names one, that of a global one, an export one, and a segment that is only declared two,
-- one of them again
abbrev pub escaping_module : Module
escaping_module =
    Types ((record { is_final = true; supertype = None; composite = record { inner = Func (record { params = []; results = [] }); shared = false } } ∷ []) ∷ [])
    ∷ Imports (record { space = 109 ∷ []; name = 102 ∷ []; type = imported.Func 0 } ∷ [])
    ∷ FunctionTypes (0 ∷ 0 ∷ 0 ∷ 0 ∷ 0 ∷ 0 ∷ [])
    ∷ Tables (record { type = record { element_type = function_reference; table64 = false; initial = 1; maximum = None }; init = Some (RefFunc 5 ∷ []) } ∷ [])
    ∷ Globals (global_of_functions 2 ∷ [])
    ∷ Exports (record { name = 97 ∷ []; kind = kind.Func; index = 4 } ∷ record { name = 98 ∷ []; kind = kind.Table; index = 0 } ∷ [])
    ∷ Elements (declared_functions (1 ∷ 4 ∷ []) ∷ [])
    ∷ []
