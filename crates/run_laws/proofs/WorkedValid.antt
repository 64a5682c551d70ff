-- The thirty bytes of two overlapping segments are valid.
use Rattle.std.proofs.Common.{◌≡◌, ◌≤◌, ◌<◌, ℕ, false, List, [], ◌∷◌, length, Option, Some, None, zero, suc, slice_index_or, inl, inr, refl, sym, ap, subst, arith, ◌∙◌}
use Rattle.std.specs.Prelude.{pos}
use Rattle.std.proofs.lemmas.List.Elements.{All-nil, All-cons}
use Rattle.std.proofs.lemmas.Option.{none-some}
use Rattle.std.proofs.lemmas.Bool.{false≢true}
use Rattle.wasm_spec.specs.TypeData as types
use Rattle.wasm_spec.specs.Module.{Payload, Memories, Segments}
use Rattle.wasm_spec.specs.Interfaces.{IsNoInterface, HasNoInterfaceTypes}
use Rattle.rule_spec.specs.WorkedKept.{overlapping, overlap_bytes, one_page, segment_at}
use Rattle.rule_spec.proofs.WorkedKept.{overlapping-kept}
use Rattle.type_spec.specs.Interned.{Interned, startup_type}
use Rattle.form_rules.proofs.OverlapRead.{overlap-spelled}
use Rattle.wasm_types.specs.declared.composite.WasmCompositeInnerType.{WasmCompositeInnerType}
use Rattle.wasm_types.specs.declared.composite.WasmCompositeInnerType.TheVariants as inner
use Rattle.wasm_types.specs.declared.sub.WasmSubType.{WasmSubType}
use Rattle.replay_spec.specs.Held.{held_segments}
use Rattle.replay_spec.specs.Elements.{ActiveElements, DefinedTable}
use Rattle.replay_spec.specs.Plan.{MemoryPlan, planned_from}
use Rattle.replay_spec.specs.Tables.{TablePlan, PlannedTable, MayBeTaken, IsTableImage}
use Rattle.module_types.specs.Views.{interned_of, inner_of}
use Rattle.vm_offsets.specs.Context.{context_size, context_table}
use Rattle.gc_layout.specs.Objects.{gc_layout_of, fixed_size}
use Rattle.module_environ.specs.Readable.{IsReadable}
use Rattle.translate.specs.Options.{PlansMemories, PlansTables}
use Rattle.translate.specs.Contexts.{HasSizes, IsInterned, object_size, size_of_context, Fits}
use Rattle.translate.specs.Valid.{IsValid}
use Rattle.run_laws.specs.Worked.{plain_options}

abbrev memories : MemoryPlan
memories = record {
  sizes = 65536 ∷ [];
  images = [];
  segments = planned_from 0 (held_segments overlapping);
  runtime = (1 ∷ 2 ∷ 3 ∷ []) ∷ (9 ∷ []) ∷ [];
  passive = λ n. None;
}

abbrev tables : TablePlan
tables = record { tables = []; segments = [] }

planned-memories : PlansMemories plain_options.init overlapping memories
planned-memories = record {
  sizes = refl;
  segments = inr (record { not_static = λ s. false≢true s.enabled; in_map = refl; in_list = refl; runtime = refl });
}

planned-tables : PlansTables plain_options.init overlapping tables
planned-tables = record {
  taken = [];
  prefix = record {
    parts = refl;
    takes = All-nil _;
    longest = λ s rest e may. absurd (omega (arith, ap length e));
  };
  minimums = refl;
  initials = refl;
  images = λ i t planned at there. absurd (none-some t at);
}

-- an object of a function type has no bytes
no-object : (header : ℕ) (c : WasmCompositeInnerType) (f : types.Function _) → inner_of c ≡ types.Func f → fixed_size (gc_layout_of header c) ≡ 0
no-object header (inner.Func t) f e = refl
no-object header (inner.Array t) f e = cc
no-object header (inner.Struct t) f e = cc
no-object header (inner.Cont t) f e = refl
no-object header (inner.Exn t) f e = cc

objects : (t : WasmSubType) → IsInterned plain_options overlapping memories tables t → object_size plain_options t ≤ 4294967295
objects t (k, lt, is) =
    let none : fixed_size (gc_layout_of 24 t.composite_type.inner) ≡ 0 = no-object 24 t.composite_type.inner (record { params = []; results = [] }) (only k lt is) in
    omega (arith, none) where
      only : (k : ℕ) → k < 1 → slice_index_or (startup_type ∷ []) k (interned_of t) ≡ interned_of t
          → inner_of t.composite_type.inner ≡ types.Func (record { params = []; results = [] })
      only zero lt is = ap (λ (x : Interned). x.composite.inner) (sym is)
      only (suc k) lt is = absurd (omega (arith, lt))

small : size_of_context plain_options overlapping memories tables ≤ 4294967295
unfolding context_size context_table
small = let size : size_of_context plain_options overlapping memories tables ≡ 136 = refl in omega (arith, size)

sizes : HasSizes plain_options overlapping memories tables
sizes = record { objects = objects; context = small }

plain-sections : HasNoInterfaceTypes overlapping
plain-sections =
    let memories : Payload = Memories (one_page ∷ []) in
    let segments : Payload = Segments (segment_at (pos 16) (1 ∷ 2 ∷ 3 ∷ []) ∷ segment_at (pos 17) (9 ∷ []) ∷ []) in
    All-cons IsNoInterface memories (segments ∷ []) tt (All-cons IsNoInterface segments [] tt (All-nil IsNoInterface))

pub valid : IsValid plain_options overlap_bytes
valid = record {
  meaning = overlapping;
  read = record { short = omega arith; spelled = overlap-spelled.0; no_interface_types = plain-sections };
  keeps = overlapping-kept;
  fits = record {
    memories = memories;
    tables = tables;
    memory_plan = planned-memories;
    table_plan = planned-tables;
    runtime = omega arith;
    sizes = sizes;
  };
}
