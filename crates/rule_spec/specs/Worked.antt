-- Small modules that each break one rule, for the worked examples.
use Rattle.std.specs.Prelude.{ℕ, true, false, List, [], ◌∷◌, Option, None, Some, pos}
use Rattle.wasm_spec.specs.declared.types.UnpackedIndex.{UnpackedIndex}
use Rattle.wasm_spec.specs.declared.types.UnpackedIndex.TheVariants as named
use Rattle.wasm_spec.specs.declared.types.AbstractHeapType.TheVariants as heap
use Rattle.wasm_spec.specs.declared.types.HeapType.TheVariants as heaps
use Rattle.wasm_spec.specs.declared.types.RefType.{RefType}
use Rattle.wasm_spec.specs.declared.types.ValType.TheVariants as values
use Rattle.wasm_spec.specs.declared.operators.Operator.TheVariants as op
use Rattle.wasm_spec.specs.declared.entities.GlobalType.{GlobalType}
use Rattle.wasm_spec.specs.declared.entities.ExternalKind.TheVariants as kind
use Rattle.wasm_spec.specs.TypeData.{Composite, Func, Array, Struct, I64, F32, Ref, Storage, I8, Val, Abstract, Concrete, SubType, unshared}
use Rattle.rule_spec.specs.declared.classes.Class.{Class}
use Rattle.rule_spec.specs.Typing.{Signature}
use Rattle.rule_spec.specs.Lists.{Lists, lists_of_module}
use Rattle.wasm_spec.specs.Module.{Module, Export, Types, FunctionTypes, Tables, Memories, Globals, Exports, Start, Elements, Code, ActiveElement, Functions}

-- a final type of this kind in a group of its own
abbrev pub alone : Composite UnpackedIndex UnpackedIndex → List (SubType UnpackedIndex UnpackedIndex)
alone c = record { is_final = true; supertype = None; composite = unshared c } ∷ []

-- a function type whose parameters are references to this type
abbrev pub taking : ℕ → Composite UnpackedIndex UnpackedIndex
taking index = Func (record { params = Ref (record { nullable = false; heap = Concrete (named.Module index) }) ∷ []; results = [] })

abbrev pub nothing_to_nothing : Composite UnpackedIndex UnpackedIndex
nothing_to_nothing = Func (record { params = []; results = [] })

abbrev pub functions_only : RefType
functions_only = record { nullable = false; heap = heaps.Abstract heap.Func }

-- ---- one module a rule

-- L1: type 0 names type 1, which is past its group
abbrev pub type_past_group : Module
type_past_group = Types (alone (taking 1) ∷ []) ∷ []

-- L2: a function of type 0, and no types
abbrev pub function_without_type : Module
function_without_type = FunctionTypes (0 ∷ []) ∷ Code 18 (record { locals = []; rest = 0x0B ∷ [] } ∷ []) ∷ []

-- L3: a function, and no body
abbrev pub function_without_body : Module
function_without_body = Types (alone nothing_to_nothing ∷ []) ∷ FunctionTypes (0 ∷ []) ∷ []

-- L4: a memory of at least 2 and at most 1 pages
abbrev pub maximum_below_minimum : Module
maximum_below_minimum = Memories (record { memory64 = false; shared = false; initial = 2; maximum = Some 1; page_size_log2 = None } ∷ []) ∷ []

-- L5: a table of functions that are not null, without an initialiser
abbrev pub table_without_initialiser : Module
table_without_initialiser = Tables (record { type = record { element_type = functions_only; table64 = false; initial = 1; maximum = None }; init = None } ∷ []) ∷ []

-- L6: a global of class i32 that an i64 initialises
abbrev pub global_of_another_class : Module
global_of_another_class = Globals (record { type = record { content_type = values.I32; mutable = false }; init = op.I64Const (pos 0) ∷ [] } ∷ []) ∷ []

abbrev pub memory_as_a : Export
memory_as_a = record { name = 0x61 ∷ []; kind = kind.Memory; index = 0 }

-- L7: two exports of memory 0 by the name `a`
abbrev pub exported_twice : Module
exported_twice = Memories (record { memory64 = false; shared = false; initial = 1; maximum = None; page_size_log2 = None } ∷ [])
    ∷ Exports (memory_as_a ∷ memory_as_a ∷ []) ∷ []

-- L8: function 0 is the start function, and there is no function
abbrev pub start_without_function : Module
start_without_function = Start 0 ∷ []

-- L9: a segment of table 0, and no tables
abbrev pub segment_without_table : Module
segment_without_table = Elements (record { kind = ActiveElement None (op.I32Const (pos 0) ∷ []); items = Functions [] } ∷ []) ∷ []

-- L10: a global that holds a reference to type 0, and no types
abbrev pub reference_without_type : Module
reference_without_type = Globals (record {
  type = record { content_type = values.Ref (record { nullable = true; heap = heaps.Concrete (named.Module 0) }); mutable = false };
  init = op.RefNull (heaps.Abstract heap.Func) ∷ [];
} ∷ []) ∷ []

-- ---- what constant expressions name

-- the type of an array of such elements
abbrev pub array_of : Storage UnpackedIndex → Composite UnpackedIndex UnpackedIndex
array_of element = Array (record { element = element; mutable = false })

-- type 0 is a structure of a packed field and an i64, type 1 an array of references that are not
-- null, type 2 an array of f32; function 0 is of no type
abbrev pub three_types : Lists
three_types = lists_of_module (
    Types (alone (Struct (record { element = I8; mutable = true } ∷ record { element = Val I64; mutable = false } ∷ []))
    ∷ alone (array_of (Val (Ref (record { nullable = false; heap = Abstract heap.Any }))))
    ∷ alone (array_of (Val F32)) ∷ []) ∷ FunctionTypes (0 ∷ []) ∷ [])

-- global 0 is an i64, and global 1 is mutable
abbrev pub two_globals : List GlobalType
two_globals = record { content_type = values.I64; mutable = false } ∷ record { content_type = values.I64; mutable = true } ∷ []

abbrev pub pushes : List Class → Class → Option Signature
pushes takes pushed = Some (record { takes = takes; pushes = pushed })
