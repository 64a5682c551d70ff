-- A translation that is filled in, step by step, holds the sections of the module.
use Rattle.std.proofs.Common.{◌≡◌, ◌∙◌, ℕ, ◌-◌, ◌<◌, Bool, true, false, Option, List, [], length, map, get_or, append_assoc, sym, ap, subst, arith}
use borrow.Pointer.Hide.{carry_now, carried_same}
use denote.Param.Table.{Entry}
use mir.Syntax.{Dict}
use Rattle.std.specs.Borrow.{Bor}
use Rattle.std.specs.Prelude.{All, IfSome, IsSomeAnd, slice_get, if◌then◌else◌}
use Rattle.std.specs.List.{range_with_len}
use Rattle.std.specs.Option.{option_map, option_and_then}
use Rattle.wasm_spec.specs.Module as plain
use Rattle.rule_spec.specs.declared.rules.Rule.TheVariants.{L2, L8}
use Rattle.rule_spec.specs.Lists.{lists_of_module, kind_at}
use Rattle.rule_spec.specs.Lists as rule
use Rattle.rule_spec.specs.Indices.{TakesAndGivesNothing}
use Rattle.form_types.specs.Types.{TypesData}
use Rattle.form_rules.specs.declared.lists.Lists.{Lists}
use Rattle.wasm_index.specs.declared.index.Index.{Index}
use Rattle.wasm_index.specs.declared.spaces.FuncSpace.{FuncSpace}
use Rattle.wasm_index.specs.declared.spaces.StaticModuleSpace.{StaticModuleSpace}
use Rattle.wasm_index.specs.Index.{number_of}
use Rattle.wasm_types.specs.declared.index.EngineOrModuleTypeIndex.{EngineOrModuleTypeIndex}
use Rattle.wasm_convert.specs.declared.convert.TypeConvert.{Ghosts}
use Rattle.wasm_module.specs.declared.module.Module.{Module}
use Rattle.wasm_module.specs.Record.{ModuleRecord}
use Rattle.init_plan.specs.declared.translation.ModuleTranslation.{ModuleTranslation}
use Rattle.init_plan.specs.Views.{IsNewTranslation, IsSegmented, ranges_of}
use Rattle.init_plan.proofs.Unplanned.{new-ranges, new-segmented}
use Rattle.module_sections.specs.Escapes.{references, defined_functions}
use Rattle.interned_types.specs.Environment.{LooksUpTypes}
use Rattle.module_sections.specs.Filling.{module_in, IsGathered, FillsEntities, FillsInitialisers, references_of}
use Rattle.module_sections.specs.EscapeLog.{EscapeLog, after_escapes}
use Rattle.module_sections.specs.Sections.{HasEntities, CountsImports, NeedsHeap, HasData}
use Rattle.form_rules.specs.Names.{imported_names, exported_names}
use Rattle.module_sections.specs.Pooled.{with_texts, HasText}
use Rattle.interned_types.specs.Types.{declared, type_index, AreTypesOf}
use Rattle.interned_types.proofs.DeclaredKinds.{function-below}
use Rattle.interned_types.proofs.DeclaredLooks.{listed-long}
use Rattle.module_sections.proofs.NotingEscapes.{firsts-append}
use Rattle.module_sections.proofs.FromRules.{below-by}

-- what is borrowed as a trait object looks up what it did
pub carried-looks : (m : plain.Module) (e f : Entry Ghosts Dict) (same : e ≡ f) (x : Bor e.0.Denot)
    → LooksUpTypes m (e.1.knows x.now) (e.1.look_up x.now)
    → LooksUpTypes m (f.1.knows (carry_now Ghosts Dict e f same x)) (f.1.look_up (carry_now Ghosts Dict e f same x))
carried-looks m e f same x looks =
    subst (λ (T : Type 0). T) (sym (carried_same Ghosts Dict e f same (Type 0) (λ j y. LooksUpTypes m (j.1.knows y.now) (j.1.look_up y.now)) x)) looks

-- ---- references, in order

-- what follows on imported functions, initialisers, exports and segments
abbrev pub behind : Bool → rule.Lists → List ℕ
behind debugged l = if debugged then defined_functions l else []

pub all-noted : (debugged : Bool) (l : rule.Lists) (start imported filled after : EscapeLog)
    → imported ≡ after_escapes start (range_with_len 0 l.imported_functions)
    → filled ≡ after_escapes imported (references_of l) → after ≡ after_escapes filled (behind debugged l)
    → after ≡ after_escapes start (references debugged l)
all-noted debugged l start imported filled after first second third =
    rw (third, second, first) (simp (firsts-append, append_assoc))

module _ (l : rule.Lists) (filled after : EscapeLog) where
  pub noted-where : (debugged : Bool) → debugged ≡ true → (start count : ℕ) → start ≡ l.imported_functions
      → count ≡ length l.functions - l.imported_functions → after ≡ after_escapes filled (range_with_len start count)
      → after ≡ after_escapes filled (behind debugged l)
  noted-where debugged is start count first rest noted = rw (is, noted, first, rest)

  pub noted-not : (debugged : Bool) → debugged ≡ false → after ≡ filled → after ≡ after_escapes filled (behind debugged l)
  noted-not debugged is same = rw (is, same)

-- ---- what was gathered

module _ (l : Lists) (gathered : IsGathered l) where
  abbrev m : plain.Module
  m = module_in l

  pub functions-are : l.spaces.functions.items ≡ plain.functions m
  functions-are = ap (λ (r : rule.Lists). r.functions) gathered.lists

  pub imported-are : l.imported_functions ≡ (lists_of_module m).imported_functions
  imported-are = ap (λ (r : rule.Lists). r.imported_functions) gathered.lists

  pub functions-named : (of : (t : TypesData) × AreTypesOf m t) (types : List EngineOrModuleTypeIndex) → types ≡ map type_index (declared m)
      → (fs : List ℕ) → fs ≡ l.spaces.functions.items → All (λ ty. ty < length types) fs
  functions-named of types listed fs are =
      rw (are, functions-are) (λ k d lt.
      let below = function-below m (get_or (plain.functions m) k d) ((gathered.keeps L2).functions k d lt) in
      omega (arith, below, listed-long m of.1.earlier types listed))

  pub starts-below : All (λ f. f < 4294967295) (lists_of_module m).starts
  starts-below = λ k d lt.
      let below = below-by (λ (o : Option ℕ). IsSomeAnd (option_and_then (kind_at (lists_of_module m)) o) TakesAndGivesNothing) (plain.functions m)
      (get_or (lists_of_module m).starts k d) (λ q. q) (gathered.keeps L8 k d lt) in
      omega (arith, below, gathered.few.functions)

-- ---- the complete translation

-- an empty translation whose entities are filled in, and then its initialisers
module _ (m : plain.Module) (index : Index StaticModuleSpace) (empty : ModuleTranslation) (new : IsNewTranslation index empty)
    (entities : Module) (first : FillsEntities m empty.module entities) (before after : EscapeLog) (t : ModuleTranslation)
    (second : FillsInitialisers m before after (record empty { «module» = entities }) t) where
  module-is : t.module ≡ record entities {
    exports = t.module.exports;
    table_initialization = t.module.table_initialization;
    passive_elements = t.module.passive_elements;
    global_initializers = t.module.global_initializers;
  }
  module-is = ap (λ (x : ModuleTranslation). x.module) second.same

  -- the names of exports, and then of imports
  pub texts-filled : t.module.strings ≡ with_texts (exported_names (lists_of_module m).exports) (imported_names m)
  texts-filled = ap (λ (x : Module). x.strings) module-is ∙ first.texts

  -- the empty record has no name
  unnamed : IfSome entities.name (HasText entities.strings)
  unnamed = rw (ap (λ (x : Module). x.name) first.same ∙ ap (λ (r : ModuleRecord). r.name) new.record_of_module) tt

  pub entities-filled : (start : Option (Index FuncSpace)) → option_map number_of start ≡ slice_get (lists_of_module m).starts 0
      → HasEntities m (record t { start_func = start })
  entities-filled start is = subst (λ x. HasEntities m (record t { «module» = x; start_func = start })) (sym module-is) (record {
    imports = first.imports;
    exports = second.exports;
    tables = first.tables;
    memories = first.memories;
    globals = first.globals;
    start = is;
    pooled = record { imports = first.pooled; exports = second.pooled; name = unnamed };
  })

  pub counts-filled : CountsImports m t.module
  counts-filled = subst (CountsImports m) (sym module-is) first.counts

  pub heap-filled : NeedsHeap t.module
  heap-filled = subst NeedsHeap (sym module-is) first.heap

  pub data-filled : HasData m t
  data-filled = subst (HasData m) (sym second.same) (record {
    unprocessed = second.unprocessed;
    active = second.active;
    passive = second.passive;
    segmented = subst (λ (x : Module). IsSegmented x.memory_initialization) (sym first.same) (new-segmented index empty new);
    no_ranges = ap ranges_of first.same ∙ new-ranges index empty new;
    no_runtime = new.no_runtime;
    nothing_found = new.nothing_found;
    no_alignment = new.no_alignment;
  })
