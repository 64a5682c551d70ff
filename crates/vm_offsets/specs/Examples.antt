-- The counts of a few modules, with pointers of 8 bytes.
use Rattle.std.specs.Prelude.{ℕ, true, false}
use Rattle.vm_offsets.specs.declared.fields.VMOffsetsFields.{VMOffsetsFields}

-- the empty module
abbrev pub empty_module : VMOffsetsFields ℕ
empty_module = record {
  ptr = 8;
  num_imported_functions = 0;
  num_imported_tables = 0;
  num_imported_memories = 0;
  num_imported_globals = 0;
  num_imported_tags = 0;
  num_defined_tables = 0;
  num_defined_memories = 0;
  num_owned_memories = 0;
  num_defined_globals = 0;
  num_defined_tags = 0;
  num_escaped_funcs = 0;
  num_runtime_data = 0;
  has_startup_func = false;
}

-- a linked program: a table, a memory and a global, two functions that escape, data and a startup function
abbrev pub linked_program : VMOffsetsFields ℕ
linked_program = record empty_module {
  num_defined_tables = 1;
  num_defined_memories = 1;
  num_owned_memories = 1;
  num_defined_globals = 1;
  num_escaped_funcs = 2;
  num_runtime_data = 1;
  has_startup_func = true;
}
