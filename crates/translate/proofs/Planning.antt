-- An initialised translation, its types, their layouts and the layout of the context are the plan
-- of the module.
use Rattle.std.proofs.Common.{◌≡◌, ◌∙◌, ◌<◌, ◌≤◌, ℕ, List, length, get_or, slice_index_or, All, Any, inl, inr, sym, ap, arith}
use Rattle.std.specs.Prelude.{◌⊎◌}
use Rattle.std.proofs.lemmas.List.{length-map, get_or-map}
use Rattle.wasm_spec.specs.Module.{Module}
use Rattle.type_spec.specs.Names.{named}
use Rattle.type_spec.specs.Interned.{Interned, Built}
use Rattle.rule_spec.specs.Rules.{Keeps}
use Rattle.replay_spec.specs.Plan.{MemoryPlan}
use Rattle.replay_spec.specs.Tables.{TablePlan}
use Rattle.wasm_types.specs.declared.sub.WasmSubType.{WasmSubType}
use Rattle.module_types.specs.Views.{interned_number, interned_of}
use Rattle.module_types.specs.TypeList.{TypeList}
use Rattle.module_types.specs.Builder.{BuilderState}
use Rattle.init_plan.specs.declared.translation.ModuleTranslation.{ModuleTranslation}
use Rattle.init_plan.specs.Views.{memory_plan_of}
use Rattle.init_plan.specs.Tables.{plan_of_tables}
use Rattle.interned_types.specs.Types.{interned_list}
use Rattle.plan_text.specs.declared.error.TranslateError.{TranslateError}
use Rattle.plan_text.specs.declared.error.TranslateError.TheVariants as refusal
use Rattle.gc_layout.specs.Objects.{gc_layout_of, fixed_size}
use Rattle.vm_offsets.specs.Context.{context_size}
use Rattle.vm_offsets.specs.Modules.{module_counts}
use Rattle.wasm_module.specs.Record.{record_of}
use Rattle.translate.specs.Options.{Options, header_size, startup_by, runs}
use Rattle.translate.specs.Contexts.{object_size, IsInterned, HasLargeObject, HasSizes, size_of_context, Overflows}
use Rattle.translate.specs.Initialised.{Initialises}
use Rattle.translate.specs.Planned.{HasCause, KeepsAnd, HoldsTypes}
use Rattle.translate.specs.Valid.{IsValid}
use Rattle.translate.proofs.Counts.{counts_same}
use Rattle.translate.proofs.ObjectSizes.{same-size}
use Rattle.translate.proofs.PlansFit.{valid-fits}

-- what a list of types holds, once it is finished
module _ (o : Options) {bytes : List ℕ} {t : ModuleTranslation} {b : BuilderState} (init : Initialises o.init bytes t b) {l : TypeList} (finished : l ≡ b.list) where
  abbrev m : Module
  m = init.meaning

  abbrev memories : MemoryPlan
  memories = memory_plan_of t

  abbrev tables : TablePlan
  tables = plan_of_tables t

  pub same-lists : HoldsTypes l (interned_list init.meaning (runs (startup_by init.meaning (memory_plan_of t) (plan_of_tables t))))
  same-lists = rw finished (record {
    types = ap (λ (x : Built). x.types) init.types;
    groups = ap (λ (x : Built). x.groups) init.types;
    trampolines = ap (λ (x : Built). x.trampolines) init.types;
  })

  long : length l.types ≡ length (interned_list m (runs (startup_by m memories tables))).types
  long = sym (length-map l.types interned_of) ∙ ap length same-lists.types

  -- where the objects of the list are small, those of the interned types are: types that are the
  -- same data have objects of one size
  objects-small : All (λ u. fixed_size (gc_layout_of (header_size o.collector) u.composite_type.inner) ≤ 4294967295) l.types
      → (u : WasmSubType) → IsInterned o m memories tables u → object_size o u ≤ 4294967295
  objects-small small u is =
      let inside : is.0 < length l.types = omega (arith, long, is.1) in
      let v = slice_index_or l.types is.0 u in
      let same = sym (get_or-map interned_of l.types is.0 u (interned_of u) inside)
      ∙ ap (λ (ts : List Interned). get_or ts is.0 (interned_of u)) same-lists.types ∙ is.2 in
      rw (← same-size (named interned_number) interned_number (header_size o.collector) v.composite_type.inner u.composite_type.inner
      (ap (λ (x : Interned). x.composite.inner) same)) (small is.0 u inside)

  -- a large object of the list is one of an interned type
  large-object : Any (λ u. 4294967295 < fixed_size (gc_layout_of (header_size o.collector) u.composite_type.inner)) l.types → HasLargeObject o m memories tables
  large-object large = record {
    type = large.1;
    interned = (
      large.0,
      omega (arith, long, large.2),
      ap (λ (ts : List Interned). get_or ts large.0 (interned_of large.1)) (sym same-lists.types)
          ∙ get_or-map interned_of l.types large.0 large.1 (interned_of large.1) large.2 ∙ ap interned_of large.3,
    );
    large = large.4;
  }

  overflows : HasLargeObject o m memories tables ⊎ (4294967295 < size_of_context o m memories tables) → KeepsAnd bytes (Overflows o)
  overflows large = record {
    meaning = m;
    read = init.read;
    keeps = init.keeps;
    fact = record {
      memories = memories;
      tables = tables;
      memory_plan = init.initialised.memories.plan;
      table_plan = init.initialised.tables;
      large = large;
    };
  }

  -- ---- there are no layouts

  module _ {e : TranslateError} (large : e ≡ refusal.OffsetOverflow
      → Any (λ u. 4294967295 < fixed_size (gc_layout_of (header_size o.collector) u.composite_type.inner)) l.types) where
    pub layout-cause : (e ≡ refusal.OffsetOverflow) ⊎ (e ≡ refusal.OutOfMemory) → HasCause o bytes e
    layout-cause (inl is) = rw is (overflows (inl (large-object (large is))))
    layout-cause (inr is) = rw is tt

    pub layout-complete : (e ≡ refusal.OffsetOverflow) ⊎ (e ≡ refusal.OutOfMemory) → IsValid o bytes → e ≡ refusal.OutOfMemory
    layout-complete (inl is) valid = absurd (valid-fits o bytes (overflows (inl (large-object (large is)))) valid)
    layout-complete (inr is) valid = is

  -- ---- the context

  -- it is too large
  pub context-cause : 4294967295 < context_size o.pointer (module_counts o.pointer (record_of t.module)) → KeepsAnd bytes (Overflows o)
  context-cause large = overflows (inr (omega (arith, ap (context_size o.pointer) (counts_same o init.initialised), large)))

  -- it fits, and so do the objects
  pub sizes-fit : All (λ u. fixed_size (gc_layout_of (header_size o.collector) u.composite_type.inner) ≤ 4294967295) l.types
      → (4294967295 < context_size o.pointer (module_counts o.pointer (record_of t.module)) → ⊥)
      → HasSizes o init.meaning (memory_plan_of t) (plan_of_tables t)
  sizes-fit small fits = record {
    objects = objects-small small;
    context = omega (arith, ap (context_size o.pointer) (counts_same o init.initialised), fits);
  }
