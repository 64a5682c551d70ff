-- What a record gives of the structs that compiled code reads.
use Rattle.std.specs.Prelude.{◌≡◌, ℕ, List, [], ◌∷◌, Option, Some, None, codes, if◌then◌else◌}
use Rattle.std.specs.Str.{bytes_eq}
use Rattle.vm_structs.specs.Fields.{StructField, offset_of, size_of, end_of}
use Rattle.vm_structs.specs.Structs.{function_import, table_import, memory_import, tag_import, global_import, memory_definition, table_definition, global_definition, tag_definition, func_ref, store_context, static_context}
use Rattle.plan_tables.specs.declared.struct_rows.FunctionImportLayout.{FunctionImportLayout}
use Rattle.plan_tables.specs.declared.struct_rows.TableImportLayout.{TableImportLayout}
use Rattle.plan_tables.specs.declared.struct_rows.MemoryImportLayout.{MemoryImportLayout}
use Rattle.plan_tables.specs.declared.struct_rows.TagImportLayout.{TagImportLayout}
use Rattle.plan_tables.specs.declared.struct_rows.GlobalImportLayout.{GlobalImportLayout}
use Rattle.plan_tables.specs.declared.struct_rows.MemoryDefinitionLayout.{MemoryDefinitionLayout}
use Rattle.plan_tables.specs.declared.struct_rows.TableDefinitionLayout.{TableDefinitionLayout}
use Rattle.plan_tables.specs.declared.struct_rows.GlobalDefinitionLayout.{GlobalDefinitionLayout}
use Rattle.plan_tables.specs.declared.struct_rows.TagDefinitionLayout.{TagDefinitionLayout}
use Rattle.plan_tables.specs.declared.struct_rows.FuncRefLayout.{FuncRefLayout}
use Rattle.plan_tables.specs.declared.struct_rows.StoreContextLayout.{StoreContextLayout}
use Rattle.plan_tables.specs.declared.struct_rows.StaticContextLayout.{StaticContextLayout}
use Rattle.plan_tables.specs.declared.struct_rows.Structs.{Structs}

-- the size of the field with a name, if there is one
abbrev pub width_in : List StructField → List ℕ → Option ℕ
width_in [] name = None
width_in (field ∷ fields) name = if bytes_eq field.name name then Some field.size else width_in fields name

-- the same of a struct
abbrev pub width_of : (ℕ → List StructField) → List ℕ → ℕ → Option ℕ
width_of struct name pointer = width_in (struct pointer) name

module _ (pointer : ℕ) where
  pub record TellsFunctionImport (r : FunctionImportLayout) : Type 0 where
    pub size : r.size ≡ size_of function_import pointer
    pub wasm_call : offset_of function_import (codes "wasm_call") pointer ≡ Some r.wasm_call
    pub wasm_call_size : width_of function_import (codes "wasm_call") pointer ≡ Some r.wasm_call_size
    pub array_call : offset_of function_import (codes "array_call") pointer ≡ Some r.array_call
    pub array_call_size : width_of function_import (codes "array_call") pointer ≡ Some r.array_call_size
    pub vmctx : offset_of function_import (codes "vmctx") pointer ≡ Some r.vmctx
    pub vmctx_size : width_of function_import (codes "vmctx") pointer ≡ Some r.vmctx_size

  pub record TellsTableImport (r : TableImportLayout) : Type 0 where
    pub size : r.size ≡ size_of table_import pointer
    pub from : offset_of table_import (codes "from") pointer ≡ Some r.from
    pub from_size : width_of table_import (codes "from") pointer ≡ Some r.from_size
    pub vmctx : offset_of table_import (codes "vmctx") pointer ≡ Some r.vmctx
    pub vmctx_size : width_of table_import (codes "vmctx") pointer ≡ Some r.vmctx_size
    pub index : offset_of table_import (codes "index") pointer ≡ Some r.index
    pub index_size : width_of table_import (codes "index") pointer ≡ Some r.index_size

  pub record TellsMemoryImport (r : MemoryImportLayout) : Type 0 where
    pub size : r.size ≡ size_of memory_import pointer
    pub from : offset_of memory_import (codes "from") pointer ≡ Some r.from
    pub from_size : width_of memory_import (codes "from") pointer ≡ Some r.from_size
    pub vmctx : offset_of memory_import (codes "vmctx") pointer ≡ Some r.vmctx
    pub vmctx_size : width_of memory_import (codes "vmctx") pointer ≡ Some r.vmctx_size
    pub index : offset_of memory_import (codes "index") pointer ≡ Some r.index
    pub index_size : width_of memory_import (codes "index") pointer ≡ Some r.index_size

  pub record TellsTagImport (r : TagImportLayout) : Type 0 where
    pub size : r.size ≡ size_of tag_import pointer
    pub from : offset_of tag_import (codes "from") pointer ≡ Some r.from
    pub from_size : width_of tag_import (codes "from") pointer ≡ Some r.from_size
    pub vmctx : offset_of tag_import (codes "vmctx") pointer ≡ Some r.vmctx
    pub vmctx_size : width_of tag_import (codes "vmctx") pointer ≡ Some r.vmctx_size
    pub index : offset_of tag_import (codes "index") pointer ≡ Some r.index
    pub index_size : width_of tag_import (codes "index") pointer ≡ Some r.index_size

  pub record TellsGlobalImport (r : GlobalImportLayout) : Type 0 where
    pub size : r.size ≡ size_of global_import pointer
    pub from : offset_of global_import (codes "from") pointer ≡ Some r.from
    pub from_size : width_of global_import (codes "from") pointer ≡ Some r.from_size
    pub vmctx : offset_of global_import (codes "vmctx") pointer ≡ Some r.vmctx
    pub vmctx_size : width_of global_import (codes "vmctx") pointer ≡ Some r.vmctx_size
    pub kind : offset_of global_import (codes "kind") pointer ≡ Some r.kind
    pub kind_size : width_of global_import (codes "kind") pointer ≡ Some r.kind_size

  pub record TellsMemoryDefinition (r : MemoryDefinitionLayout) : Type 0 where
    pub size : r.size ≡ size_of memory_definition pointer
    pub base : offset_of memory_definition (codes "base") pointer ≡ Some r.base
    pub base_size : width_of memory_definition (codes "base") pointer ≡ Some r.base_size
    pub current_length : offset_of memory_definition (codes "current_length") pointer ≡ Some r.current_length
    pub current_length_size : width_of memory_definition (codes "current_length") pointer ≡ Some r.current_length_size

  pub record TellsTableDefinition (r : TableDefinitionLayout) : Type 0 where
    pub size : r.size ≡ size_of table_definition pointer
    pub base : offset_of table_definition (codes "base") pointer ≡ Some r.base
    pub base_size : width_of table_definition (codes "base") pointer ≡ Some r.base_size
    pub current_elements : offset_of table_definition (codes "current_elements") pointer ≡ Some r.current_elements
    pub current_elements_size : width_of table_definition (codes "current_elements") pointer ≡ Some r.current_elements_size

  pub record TellsGlobalDefinition (r : GlobalDefinitionLayout) : Type 0 where
    pub size : r.size ≡ size_of global_definition pointer
    pub storage : offset_of global_definition (codes "storage") pointer ≡ Some r.storage
    pub storage_size : width_of global_definition (codes "storage") pointer ≡ Some r.storage_size

  pub record TellsTagDefinition (r : TagDefinitionLayout) : Type 0 where
    pub size : r.size ≡ size_of tag_definition pointer
    pub type_index : offset_of tag_definition (codes "type_index") pointer ≡ Some r.type_index
    pub type_index_size : width_of tag_definition (codes "type_index") pointer ≡ Some r.type_index_size

  pub record TellsFuncRef (r : FuncRefLayout) : Type 0 where
    pub size : r.size ≡ size_of func_ref pointer
    pub array_call : offset_of func_ref (codes "array_call") pointer ≡ Some r.array_call
    pub array_call_size : width_of func_ref (codes "array_call") pointer ≡ Some r.array_call_size
    pub wasm_call : offset_of func_ref (codes "wasm_call") pointer ≡ Some r.wasm_call
    pub wasm_call_size : width_of func_ref (codes "wasm_call") pointer ≡ Some r.wasm_call_size
    pub type_index : offset_of func_ref (codes "type_index") pointer ≡ Some r.type_index
    pub type_index_size : width_of func_ref (codes "type_index") pointer ≡ Some r.type_index_size
    pub vmctx : offset_of func_ref (codes "vmctx") pointer ≡ Some r.vmctx
    pub vmctx_size : width_of func_ref (codes "vmctx") pointer ≡ Some r.vmctx_size

  pub record TellsStoreContext (r : StoreContextLayout) : Type 0 where
    pub size : r.size ≡ size_of store_context pointer
    pub fuel_consumed : offset_of store_context (codes "fuel_consumed") pointer ≡ Some r.fuel_consumed
    pub fuel_consumed_size : width_of store_context (codes "fuel_consumed") pointer ≡ Some r.fuel_consumed_size
    pub epoch_deadline : offset_of store_context (codes "epoch_deadline") pointer ≡ Some r.epoch_deadline
    pub epoch_deadline_size : width_of store_context (codes "epoch_deadline") pointer ≡ Some r.epoch_deadline_size
    pub stack_limit : offset_of store_context (codes "stack_limit") pointer ≡ Some r.stack_limit
    pub stack_limit_size : width_of store_context (codes "stack_limit") pointer ≡ Some r.stack_limit_size
    pub gc_heap : offset_of store_context (codes "gc_heap") pointer ≡ Some r.gc_heap
    pub gc_heap_size : width_of store_context (codes "gc_heap") pointer ≡ Some r.gc_heap_size
    pub last_wasm_exit_trampoline_fp : offset_of store_context (codes "last_wasm_exit_trampoline_fp") pointer ≡ Some r.last_wasm_exit_trampoline_fp
    pub last_wasm_exit_trampoline_fp_size : width_of store_context (codes "last_wasm_exit_trampoline_fp") pointer ≡ Some r.last_wasm_exit_trampoline_fp_size

  pub record TellsStaticContext (r : StaticContextLayout) : Type 0 where
    pub size : r.size ≡ end_of static_context pointer
    pub magic : offset_of static_context (codes "magic") pointer ≡ Some r.magic
    pub magic_size : width_of static_context (codes "magic") pointer ≡ Some r.magic_size
    pub store_context : offset_of static_context (codes "store_context") pointer ≡ Some r.store_context
    pub store_context_size : width_of static_context (codes "store_context") pointer ≡ Some r.store_context_size
    pub builtin_functions : offset_of static_context (codes "builtin_functions") pointer ≡ Some r.builtin_functions
    pub builtin_functions_size : width_of static_context (codes "builtin_functions") pointer ≡ Some r.builtin_functions_size
    pub epoch_ptr : offset_of static_context (codes "epoch_ptr") pointer ≡ Some r.epoch_ptr
    pub epoch_ptr_size : width_of static_context (codes "epoch_ptr") pointer ≡ Some r.epoch_ptr_size
    pub gc_heap_data : offset_of static_context (codes "gc_heap_data") pointer ≡ Some r.gc_heap_data
    pub gc_heap_data_size : width_of static_context (codes "gc_heap_data") pointer ≡ Some r.gc_heap_data_size
    pub type_ids : offset_of static_context (codes "type_ids") pointer ≡ Some r.type_ids
    pub type_ids_size : width_of static_context (codes "type_ids") pointer ≡ Some r.type_ids_size

  -- the size of each struct, and of each of its fields where it begins and its size
  pub record TellsStructs (r : Structs) : Type 0 where
    pub function_import : TellsFunctionImport r.function_import
    pub table_import : TellsTableImport r.table_import
    pub memory_import : TellsMemoryImport r.memory_import
    pub tag_import : TellsTagImport r.tag_import
    pub global_import : TellsGlobalImport r.global_import
    pub memory_definition : TellsMemoryDefinition r.memory_definition
    pub table_definition : TellsTableDefinition r.table_definition
    pub global_definition : TellsGlobalDefinition r.global_definition
    pub tag_definition : TellsTagDefinition r.tag_definition
    pub func_ref : TellsFuncRef r.func_ref
    pub store_context : TellsStoreContext r.store_context
    pub static_context : TellsStaticContext r.static_context
