-- The counts of a planned translation are those of the module, and its index spaces hold what is
-- imported into them.
use Rattle.std.proofs.Common.{◌≡◌, ◌≤◌, ◌+◌, ◌-◌, ℕ, false, not, cond, List, [], ◌∷◌, ◌++◌, length, length-append, map, drop, refl, sym, ap, ◌∙◌, arith}
use Rattle.std.specs.Prelude.{count_by}
use Rattle.std.specs.List.{enumerate_from, flat_map}
use Rattle.std.proofs.Math.Seq.{drop-append_seam}
use Rattle.std.proofs.lemmas.List.{length-map, map-append}
use Rattle.std.proofs.lemmas.List.FromFn.{length-enumerate_from}
use Rattle.std.proofs.lemmas.List.Sums.{sum_by-cons}
use Rattle.wasm_spec.specs.declared.entities.MemoryType.{MemoryType}
use Rattle.wasm_spec.specs.Module.{GlobalDef, TableDef, function_import, table_import, global_import, tag_import, imported_of, imported_memories, defined_memories, function_types_of_section, tables_of_section, globals_of_section, tags_of_section}
use Rattle.wasm_spec.specs.Module as plain
use Rattle.rule_spec.specs.Lists.{lists_of_module}
use Rattle.wasm_types.specs.declared.memory.Memory.{Memory}
use Rattle.wasm_types.specs.declared.index.EngineOrModuleTypeIndex.{EngineOrModuleTypeIndex}
use Rattle.wasm_types.specs.EntityViews.{global_of, table_of}
use Rattle.wasm_types.specs.Memories.{memory_of}
use Rattle.wasm_module.specs.declared.module.Module.{Module}
use Rattle.wasm_module.specs.Record.{record_of}
use Rattle.form_reader.proofs.Entries.{few_entries}
use Rattle.replay_spec.specs.Plan.{MemoryPlan, ranges_from}
use Rattle.replay_spec.specs.Startup.{Startup, Never}
use Rattle.replay_spec.specs.Tables.{TablePlan}
use Rattle.vm_offsets.specs.Modules.{HoldsImports, has_startup, module_counts}
use Rattle.init_plan.specs.declared.translation.ModuleTranslation.{ModuleTranslation}
use Rattle.init_plan.specs.Startup.{startup_with}
use Rattle.init_plan.specs.Tables.{plan_of_tables}
use Rattle.init_plan.specs.Views.{memory_plan_of}
use Rattle.module_sections.specs.Escapes.{escaping}
use Rattle.module_environ.specs.Readable.{IsReadable}
use Rattle.interned_types.specs.Types.{interned_list, type_index}
use Rattle.translate.specs.Contexts.{context_of}
use Rattle.translate.specs.Initialised.{IsInitialised}
use Rattle.translate.specs.Options.{InitOptions, Options, startup_by, runs}

-- ---- lists

-- as many memories are shared as types of memories
owned_same : (ts : List MemoryType) → count_by (λ (memory : Memory). not memory.shared) (map memory_of ts) ≡ count_by (λ (t : MemoryType). not t.shared) ts
owned_same [] = refl
owned_same (t ∷ ts) =
    sum_by-cons (λ (memory : Memory). cond (not memory.shared) 1 0) (memory_of t) (map memory_of ts)
    ∙ ap (λ (n : ℕ). cond (not t.shared) 1 0 + n) (owned_same ts)
    ∙ sym (sum_by-cons (λ (x : MemoryType). cond (not x.shared) 1 0) t ts)

ranges_counted : (start : ℕ) (ns : List ℕ) → length (ranges_from start ns) ≡ length ns
ranges_counted start [] = refl
ranges_counted start (n ∷ ns) = let more = ranges_counted (start + n) ns in omega (arith, more)

within : {A : Type 0} (xs ys : List A) (n k : ℕ) → n ≡ length xs → k ≡ length (xs ++ ys) → n ≤ k
within xs ys n k few all = let l = length-append xs ys in omega (arith, few, all, l)

-- there is a startup function where it may run
runs_same : (kind : Startup) (ty : EngineOrModuleTypeIndex) → has_startup (startup_with kind ty) ≡ runs kind
runs_same Never ty = refl
runs_same kind ty = refl

-- ---- a record

-- a record has the entities of a module
record HasCounts (m : plain.Module) (x : Module) : Type 0 where
  imported_functions : x.num_imported_funcs ≡ length (imported_of function_import m)
  imported_tables : x.num_imported_tables ≡ length (imported_of table_import m)
  imported_memories : x.num_imported_memories ≡ length (imported_memories m)
  imported_globals : x.num_imported_globals ≡ length (imported_of global_import m)
  imported_tags : x.num_imported_tags ≡ length (imported_of tag_import m)
  functions : length x.functions ≡ length (plain.functions m)
  tables : length x.tables ≡ length (plain.tables m)
  memories : x.memories ≡ map memory_of (plain.memories m)
  globals : length x.globals ≡ length (plain.globals m)
  tags : length x.tags ≡ length (plain.tags m)

module _ (m : plain.Module) (x : Module) (has : HasCounts m x) where
  all_memories : length x.memories ≡ length (plain.memories m)
  all_memories = ap length has.memories ∙ length-map (plain.memories m) memory_of

  record_holds : HoldsImports (record_of x)
  record_holds = record {
    functions = within (imported_of function_import m) (flat_map function_types_of_section m) _ _ has.imported_functions has.functions;
    tables = within (imported_of table_import m) (map (λ (t : TableDef). t.type) (flat_map tables_of_section m)) _ _ has.imported_tables has.tables;
    memories = within (imported_memories m) (defined_memories m) _ _ has.imported_memories all_memories;
    globals = within (imported_of global_import m) (map (λ (g : GlobalDef). g.type) (flat_map globals_of_section m)) _ _ has.imported_globals has.globals;
    tags = within (imported_of tag_import m) (flat_map tags_of_section m) _ _ has.imported_tags has.tags;
  }

  owned : count_by (λ (memory : Memory). not memory.shared) (drop x.num_imported_memories x.memories) ≡ count_by (λ (t : MemoryType). not t.shared) (defined_memories m)
  owned = rw (has.imported_memories, has.memories, map-append memory_of (imported_memories m), ← length-map (imported_memories m) memory_of, drop-append_seam)
      (owned_same (defined_memories m))

  own_memories : length x.memories - x.num_imported_memories ≡ length (defined_memories m)
  own_memories = let l = length-append (imported_memories m) (defined_memories m) in omega (arith, all_memories, has.imported_memories, l)

  record_counted : (o : Options) (memory_plan : MemoryPlan) (table_plan : TablePlan)
      → x.num_escaped_funcs ≡ length (escaping o.init.tunables.debug_guest (lists_of_module m))
      → length (record_of x).runtime_data ≡ length memory_plan.runtime → has_startup x.startup ≡ runs (startup_by m memory_plan table_plan)
      → module_counts o.pointer (record_of x) ≡ context_of o m memory_plan table_plan
  record_counted o memory_plan table_plan escaped runtime starts = cc (owned, own_memories)

-- ---- a planned translation

module _ {i : InitOptions} {bytes : List ℕ} {m : plain.Module} {t : ModuleTranslation} (is : IsInitialised i bytes m t) where
  has_counts : HasCounts m t.module
  has_counts =
      let before = is.rest.before.module in
      let sections = is.rest.translation.sections in
      rw is.rest.same (record {
        imported_functions = sections.counts.functions;
        imported_tables = sections.counts.tables;
        imported_memories = sections.counts.memories;
        imported_globals = sections.counts.globals;
        imported_tags = sections.counts.tags;
        functions = ap length sections.escapes.functions ∙ length-map (enumerate_from 0 (plain.functions m)) _ ∙ length-enumerate_from 0 (plain.functions m);
        tables = sym (length-map before.tables table_of) ∙ ap length sections.entities.tables ∙ length-map (plain.tables m) _;
        memories = sections.entities.memories;
        globals = sym (length-map before.globals global_of) ∙ ap length sections.entities.globals ∙ length-map (plain.globals m) _;
        tags = ap length is.rest.translation.types.tags ∙ length-map (plain.tags m) _;
      })

  pub holds_imports : HoldsImports (record_of t.module)
  holds_imports = record_holds m t.module has_counts

  -- no more functions escape than there are
  pub few_escape : IsReadable bytes m → t.module.num_escaped_funcs ≤ 4294967295
  few_escape read =
      let few = few_entries bytes m read.spelled read.short in
      let escaped = ap (λ (x : ModuleTranslation). x.module.num_escaped_funcs) is.rest.same in
      let all = ap (λ (x : ModuleTranslation). length x.module.functions) is.rest.same in
      omega (arith, few.functions, escaped, all, has_counts.functions, is.rest.translation.sections.escapes.below)

pub counts_same : (o : Options) {bytes : List ℕ} {m : plain.Module} {t : ModuleTranslation} → IsInitialised o.init bytes m t
    → module_counts o.pointer (record_of t.module) ≡ context_of o m (memory_plan_of t) (plan_of_tables t)
counts_same o {m = m} {t = t} is =
    let kind = startup_by m (memory_plan_of t) (plan_of_tables t) in
    record_counted m t.module (has_counts is) o (memory_plan_of t) (plan_of_tables t)
    (ap (λ (x : ModuleTranslation). x.module.num_escaped_funcs) is.rest.same ∙ is.rest.translation.sections.escapes.count)
    (ap length is.memories.ranges ∙ ranges_counted 0 (map length (memory_plan_of t).runtime) ∙ length-map (memory_plan_of t).runtime length)
    (ap has_startup is.startup ∙ runs_same kind (type_index (length (interned_list m false).types)))
