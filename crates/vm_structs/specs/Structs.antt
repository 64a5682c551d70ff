-- The one table of the structs that compiled code reads: the fields of each, in order, at a size of pointers.
use Rattle.std.specs.Prelude.{ℕ, List, [], ◌∷◌, codes}
use Rattle.vm_structs.specs.Fields.{StructField, size_of, align_of}

-- a pointer, or an integer of the same size
abbrev pub word : ℕ → List ℕ → StructField
word pointer name = record { name = name; size = pointer; align = pointer }

-- a 32-bit integer
abbrev pub number : List ℕ → StructField
number name = record { name = name; size = 4; align = 4 }

-- a 64-bit integer
abbrev pub wide : List ℕ → StructField
wide name = record { name = name; size = 8; align = 8 }

abbrev pub function_import : ℕ → List StructField
function_import pointer = word pointer (codes "wasm_call") ∷ word pointer (codes "array_call") ∷ word pointer (codes "vmctx") ∷ []

abbrev pub table_import : ℕ → List StructField
table_import pointer = word pointer (codes "from") ∷ word pointer (codes "vmctx") ∷ number (codes "index") ∷ []

abbrev pub memory_import : ℕ → List StructField
memory_import pointer = word pointer (codes "from") ∷ word pointer (codes "vmctx") ∷ number (codes "index") ∷ []

abbrev pub tag_import : ℕ → List StructField
tag_import pointer = word pointer (codes "from") ∷ word pointer (codes "vmctx") ∷ number (codes "index") ∷ []

-- a kind is a 32-bit integer and a payload of 32 bits
abbrev pub global_import : ℕ → List StructField
global_import pointer = word pointer (codes "from") ∷ word pointer (codes "vmctx")
    ∷ record { name = codes "kind"; size = 8; align = 4 } ∷ []

abbrev pub memory_definition : ℕ → List StructField
memory_definition pointer = word pointer (codes "base") ∷ word pointer (codes "current_length") ∷ []

abbrev pub table_definition : ℕ → List StructField
table_definition pointer = word pointer (codes "base") ∷ word pointer (codes "current_elements") ∷ []

-- space for the widest value, a vector of 128 bits
abbrev pub global_definition : ℕ → List StructField
global_definition pointer = record { name = codes "storage"; size = 16; align = 16 } ∷ []

abbrev pub tag_definition : ℕ → List StructField
tag_definition pointer = number (codes "type_index") ∷ []

abbrev pub func_ref : ℕ → List StructField
func_ref pointer = word pointer (codes "array_call") ∷ word pointer (codes "wasm_call") ∷ number (codes "type_index")
    ∷ word pointer (codes "vmctx") ∷ []

abbrev pub store_context : ℕ → List StructField
store_context pointer = wide (codes "fuel_consumed") ∷ wide (codes "epoch_deadline") ∷ word pointer (codes "stack_limit")
    ∷ record {
      name = codes "gc_heap";
      size = size_of memory_definition pointer;
      align = align_of memory_definition pointer;
    }
    ∷ word pointer (codes "last_wasm_exit_trampoline_fp") ∷ []

-- the part of a context that every module has
abbrev pub static_context : ℕ → List StructField
static_context pointer = number (codes "magic") ∷ word pointer (codes "store_context") ∷ word pointer (codes "builtin_functions")
    ∷ word pointer (codes "epoch_ptr") ∷ word pointer (codes "gc_heap_data") ∷ word pointer (codes "type_ids") ∷ []
