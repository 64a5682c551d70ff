use Rattle.std.proofs.Common.{ℕ, subst}
use Rattle.plan_tables.specs.Structs.{TellsStructs}
use Rattle.plan_tables.proofs.structs.structs_row.Goals as goal

-- each layout is that of the plan's size of pointers
pub returns : goal.returns
returns c = subst (λ (p : ℕ). TellsStructs p (record {
  function_import = c.function_import_layout.result;
  table_import = c.table_import_layout.result;
  memory_import = c.memory_import_layout.result;
  tag_import = c.tag_import_layout.result;
  global_import = c.global_import_layout.result;
  memory_definition = c.memory_definition_layout.result;
  table_definition = c.table_definition_layout.result;
  global_definition = c.global_definition_layout.result;
  tag_definition = c.tag_definition_layout.result;
  func_ref = c.func_ref_layout.result;
  store_context = c.store_context_layout.result;
  static_context = c.static_context_layout.result;
})) c.ptr-pointer.ensures (record {
  function_import = c.function_import_layout.ensures;
  table_import = c.table_import_layout.ensures;
  memory_import = c.memory_import_layout.ensures;
  tag_import = c.tag_import_layout.ensures;
  global_import = c.global_import_layout.ensures;
  memory_definition = c.memory_definition_layout.ensures;
  table_definition = c.table_definition_layout.ensures;
  global_definition = c.global_definition_layout.ensures;
  tag_definition = c.tag_definition_layout.ensures;
  func_ref = c.func_ref_layout.ensures;
  store_context = c.store_context_layout.ensures;
  static_context = c.static_context_layout.ensures;
})
