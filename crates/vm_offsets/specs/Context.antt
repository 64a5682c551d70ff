-- The layout of an instance's context. All numbers but counts are bytes.
use Rattle.std.specs.Prelude.{ℕ, ◌+◌, ◌*◌, List, [], ◌∷◌, codes, Option, None, Some, if◌then◌else◌}
use Rattle.std.specs.Int.{next_multiple_of}
use Rattle.std.specs.Str.{bytes_eq}
use Rattle.vm_structs.specs.Fields.{size_of, end_of}
use Rattle.vm_structs.specs.Structs.{function_import, table_import, memory_import, tag_import, global_import, memory_definition, table_definition, global_definition, tag_definition, func_ref, static_context}
use Rattle.vm_offsets.specs.declared.fields.VMOffsetsFields.{VMOffsetsFields}

-- a row of the table: a step to the next multiple of a number; or an entry, with its description,
-- the number of its elements and their size
pub data ContextRow : Type 0 where
  align : (to : ℕ) → ContextRow
  entry : (description : List ℕ) → (count size : ℕ) → ContextRow

-- the one table of the entries that depend on a module, at a size of pointers and the module's counts
unfoldable pub context_table : {P : Type 0} → ℕ → VMOffsetsFields P → List ContextRow
context_table pointer c =
    entry (codes "imported memories") c.num_imported_memories (size_of memory_import pointer)
    ∷ entry (codes "defined memories") c.num_defined_memories pointer
    ∷ entry (codes "owned memories") c.num_owned_memories (size_of memory_definition pointer)
    ∷ entry (codes "imported functions") c.num_imported_functions (size_of function_import pointer)
    ∷ entry (codes "imported tables") c.num_imported_tables (size_of table_import pointer)
    ∷ entry (codes "imported globals") c.num_imported_globals (size_of global_import pointer)
    ∷ entry (codes "imported tags") c.num_imported_tags (size_of tag_import pointer)
    ∷ entry (codes "defined tables") c.num_defined_tables (size_of table_definition pointer)
    ∷ align 16
    ∷ entry (codes "defined globals") c.num_defined_globals (size_of global_definition pointer)
    ∷ entry (codes "defined tags") c.num_defined_tags (size_of tag_definition pointer)
    ∷ align pointer
    ∷ entry (codes "module functions") c.num_escaped_funcs (size_of func_ref pointer)
    ∷ entry (codes "startup funcref") (if c.has_startup_func then 1 else 0) (size_of func_ref pointer)
    ∷ entry (codes "runtime data base pointers") c.num_runtime_data pointer
    ∷ entry (codes "runtime data lengths") c.num_runtime_data 4
    ∷ []

-- an entry with its position
pub record Placed : Type 0 where
  pub description : List ℕ
  pub begin : ℕ
  pub stride : ℕ
  pub count : ℕ

-- where its last element ends
abbrev pub entry_end : Placed → ℕ
entry_end placed = placed.begin + placed.count * placed.stride

-- the entries of a table that begins at a byte: each begins where the rows before it end
abbrev pub placed_from : ℕ → List ContextRow → List Placed
placed_from at [] = []
placed_from at (align to ∷ rows) = placed_from (next_multiple_of at to) rows
placed_from at (entry description count size ∷ rows) =
    record { description = description; begin = at; stride = size; count = count }
    ∷ placed_from (at + count * size) rows

-- where such a table ends
abbrev pub end_from : ℕ → List ContextRow → ℕ
end_from at [] = at
end_from at (align to ∷ rows) = end_from (next_multiple_of at to) rows
end_from at (entry description count size ∷ rows) = end_from (at + count * size) rows

-- the entries of a context, which follow its static part
unfoldable pub context_entries : {P : Type 0} → ℕ → VMOffsetsFields P → List Placed
context_entries pointer c = placed_from (end_of static_context pointer) (context_table pointer c)

-- the size of a context
unfoldable pub context_size : {P : Type 0} → ℕ → VMOffsetsFields P → ℕ
context_size pointer c = end_from (end_of static_context pointer) (context_table pointer c)

-- the entry with a description among these, if there is one
abbrev pub entry_named : List ℕ → List Placed → Option Placed
entry_named description [] = None
entry_named description (placed ∷ others) =
    if bytes_eq placed.description description then Some placed else entry_named description others
