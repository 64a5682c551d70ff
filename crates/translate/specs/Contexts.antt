-- The sizes that follow from a module: those of its objects and of its context.
use Rattle.std.specs.Prelude.{ℕ, ◌⊎◌, ◌^◌, ◌<◌, ◌≤◌, ◌-◌, not, length, sum_by, count_by, Contains}
use Rattle.wasm_spec.specs.Module.{Module, function_import, table_import, global_import, tag_import, imported_of, imported_memories, defined_memories, tables, globals, tags}
use Rattle.rule_spec.specs.Lists.{lists_of_module}
use Rattle.wasm_types.specs.declared.sub.WasmSubType.{WasmSubType}
use Rattle.module_types.specs.Views.{interned_of}
use Rattle.replay_spec.specs.Plan.{MemoryPlan}
use Rattle.replay_spec.specs.Tables.{TablePlan}
use Rattle.gc_layout.specs.Objects.{gc_layout_of, fixed_size}
use Rattle.vm_offsets.specs.declared.fields.VMOffsetsFields.{VMOffsetsFields}
use Rattle.vm_offsets.specs.Context.{context_size}
use Rattle.module_sections.specs.Escapes.{escaping}
use Rattle.interned_types.specs.Types.{interned_list}
use Rattle.translate.specs.Options.{Options, header_size, startup_by, runs, PlansMemories, PlansTables}

-- the bytes of an object of a type; of an array, those before its elements
abbrev pub object_size : Options → WasmSubType → ℕ
object_size o t = fixed_size (gc_layout_of (header_size o.collector) t.composite_type.inner)

-- what is in the context of a module, by the plans of its memories and tables
abbrev pub context_of : Options → Module → MemoryPlan → TablePlan → VMOffsetsFields ℕ
context_of o m memory_plan table_plan = record {
  ptr = o.pointer;
  num_imported_functions = length (imported_of function_import m);
  num_imported_tables = length (imported_of table_import m);
  num_imported_memories = length (imported_memories m);
  num_imported_globals = length (imported_of global_import m);
  num_imported_tags = length (imported_of tag_import m);
  num_defined_tables = length (tables m) - length (imported_of table_import m);
  num_defined_memories = length (defined_memories m);
  num_owned_memories = count_by (λ memory. not memory.shared) (defined_memories m);
  num_defined_globals = length (globals m) - length (imported_of global_import m);
  num_defined_tags = length (tags m) - length (imported_of tag_import m);
  num_escaped_funcs = length (escaping o.init.tunables.debug_guest (lists_of_module m));
  num_runtime_data = length memory_plan.runtime;
  has_startup_func = runs (startup_by m memory_plan table_plan);
}

module _ (o : Options) (m : Module) (memory_plan : MemoryPlan) (table_plan : TablePlan) where
  -- it is one of the interned types of the module
  abbrev pub IsInterned : WasmSubType → Type 0
  IsInterned t = Contains (interned_list m (runs (startup_by m memory_plan table_plan))).types (interned_of t)

  -- an object of an interned type passes 4294967295 bytes
  pub record HasLargeObject : Type 0 where
    pub type : WasmSubType
    pub interned : IsInterned type
    pub large : 4294967295 < object_size o type

  abbrev pub size_of_context : ℕ
  size_of_context = context_size o.pointer (context_of o m memory_plan table_plan)

  -- the objects of each interned type have sizes of 32 bits, and so has the context
  pub record HasSizes : Type 0 where
    pub objects : (t : WasmSubType) → IsInterned t → object_size o t ≤ 4294967295
    pub context : size_of_context ≤ 4294967295

-- with some plans of its memories and tables, of which all give the same sizes, an object or the
-- context is too large
pub record Overflows (o : Options) (m : Module) : Type 0 where
  pub memories : MemoryPlan
  pub tables : TablePlan
  pub memory_plan : PlansMemories o.init m memories
  pub table_plan : PlansTables o.init m tables
  pub large : HasLargeObject o m memories tables ⊎ (4294967295 < size_of_context o m memories tables)

-- with some plans of its memories and tables, of which all give the same sizes, its runtime data
-- fit in 32 bits, and so do the sizes
pub record Fits (o : Options) (m : Module) : Type 0 where
  pub memories : MemoryPlan
  pub tables : TablePlan
  pub memory_plan : PlansMemories o.init m memories
  pub table_plan : PlansTables o.init m tables
  pub runtime : sum_by length memories.runtime < 2 ^ 32
  pub sizes : HasSizes o m memories tables
