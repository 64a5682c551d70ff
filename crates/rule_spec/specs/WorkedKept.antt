-- Small modules that keep the rules, for the worked examples, and the bytes of one.
use Rattle.std.specs.Prelude.{ℕ, ℤ, pos, true, false, List, [], ◌∷◌, ◌++◌, None, Some}
use Rattle.wasm_spec.specs.declared.types.UnpackedIndex.TheVariants as named
use Rattle.wasm_spec.specs.declared.types.HeapType.{HeapType}
use Rattle.wasm_spec.specs.declared.types.HeapType.TheVariants as heaps
use Rattle.wasm_spec.specs.declared.types.ValType.TheVariants as values
use Rattle.wasm_spec.specs.declared.operators.Operator.TheVariants as op
use Rattle.wasm_spec.specs.declared.entities.ExternalKind.TheVariants as kind
use Rattle.wasm_spec.specs.declared.entities.MemoryType.{MemoryType}
use Rattle.wasm_spec.specs.Grammar.{header}
use Rattle.wasm_spec.specs.Module.{Module, Export, Segment, Types, FunctionTypes, Tables, Memories, Globals, Exports, Start, Elements, Code, Segments, ActiveElement, Functions, Active}
use Rattle.rule_spec.specs.Worked.{alone, taking, nothing_to_nothing, functions_only, memory_as_a}

-- ---- one module a rule

-- L1: type 1 names type 0
abbrev pub type_of_an_earlier : Module
type_of_an_earlier = Types (alone nothing_to_nothing ∷ alone (taking 0) ∷ []) ∷ []

-- L2, L3: a function of type 0, and its body
abbrev pub function_with_body : Module
function_with_body =
    Types (alone nothing_to_nothing ∷ []) ∷ FunctionTypes (0 ∷ []) ∷ Code 18 (record { locals = []; rest = 0x0B ∷ [] } ∷ []) ∷ []

-- L4: a memory of at least 1 and at most 2 pages
abbrev pub maximum_above_minimum : Module
maximum_above_minimum = Memories (record { memory64 = false; shared = false; initial = 1; maximum = Some 2; page_size_log2 = None } ∷ []) ∷ []

-- L5: a table of functions that are not null, which holds function 0 at first
abbrev pub table_with_initialiser : Module
table_with_initialiser = Tables (record {
  type = record { element_type = functions_only; table64 = false; initial = 1; maximum = None };
  init = Some (op.RefFunc 0 ∷ []);
} ∷ []) ∷ []

-- L6: a global of class i32 that `1 + 2` initialises
abbrev pub global_of_a_sum : Module
global_of_a_sum = Globals (record {
  type = record { content_type = values.I32; mutable = false };
  init = op.I32Const (pos 1) ∷ op.I32Const (pos 2) ∷ op.I32Add ∷ [];
} ∷ []) ∷ []

-- a memory of one page
abbrev pub one_page : MemoryType
one_page = record { memory64 = false; shared = false; initial = 1; maximum = None; page_size_log2 = None }

abbrev pub memory_as_b : Export
memory_as_b = record { name = 0x62 ∷ []; kind = kind.Memory; index = 0 }

-- L7: memory 0 by the names `a` and `b`
abbrev pub exported_by_two_names : Module
exported_by_two_names = Memories (one_page ∷ []) ∷ Exports (memory_as_a ∷ memory_as_b ∷ []) ∷ []

-- L8: function 0 is the start function, without parameters and results
abbrev pub function_to_start : Module
function_to_start = Types (alone nothing_to_nothing ∷ []) ∷ FunctionTypes (0 ∷ []) ∷ Start 0 ∷ []

abbrev pub segment_at : ℤ → List ℕ → Segment
segment_at offset bytes = record { kind = Active 0 (op.I32Const offset ∷ []); bytes = bytes }

-- L9: a segment of table 0 with function 0, and a segment of memory 0
abbrev pub segments_in_range : Module
segments_in_range = FunctionTypes (0 ∷ [])
    ∷ Tables (record { type = record { element_type = functions_only; table64 = false; initial = 1; maximum = None }; init = None } ∷ [])
    ∷ Memories (one_page ∷ [])
    ∷ Elements (record { kind = ActiveElement None (op.I32Const (pos 0) ∷ []); items = Functions (0 ∷ []) } ∷ [])
    ∷ Segments (segment_at (pos 0) (7 ∷ []) ∷ []) ∷ []

-- L10: a global that holds a reference to type 0, which is null at first
abbrev pub reference_to_type : Module
reference_to_type = let first : HeapType = heaps.Concrete (named.Module 0) in
    Types (alone nothing_to_nothing ∷ []) ∷ Globals (record {
      type = record { content_type = values.Ref (record { nullable = true; heap = first }); mutable = false };
      init = op.RefNull first ∷ [];
    } ∷ []) ∷ []

-- ---- a complete module

-- a memory of one page and its data segments
abbrev pub with_segments : List Segment → Module
with_segments ss = Memories (one_page ∷ []) ∷ Segments ss ∷ []

-- the second segment overlaps the first
abbrev pub overlapping : Module
overlapping = with_segments (segment_at (pos 16) (1 ∷ 2 ∷ 3 ∷ []) ∷ segment_at (pos 17) (9 ∷ []) ∷ [])

-- its thirty bytes: the header, a memory section, and a data section
abbrev pub overlap_bytes : List ℕ
overlap_bytes = header
    ++ 0x05 ∷ 0x03 ∷ 0x01 ∷ 0x00 ∷ 0x01
    ∷ 0x0B ∷ 0x0F ∷ 0x02 ∷ 0x00 ∷ 0x41 ∷ 0x10 ∷ 0x0B ∷ 0x03 ∷ 0x01 ∷ 0x02 ∷ 0x03
    ∷ 0x00 ∷ 0x41 ∷ 0x11 ∷ 0x0B ∷ 0x01 ∷ 0x09 ∷ []
