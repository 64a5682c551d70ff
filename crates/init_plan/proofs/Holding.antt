-- A plan that agrees with a translation agrees with the module whose lists the translation holds.
use Rattle.std.proofs.Common.{◌≡◌, ℕ, Bool, true, false, List, [], ◌∷◌, ◌++◌, length, map, drop, refl, ◌∙◌, ap, subst}
use Rattle.std.specs.Prelude.{unwrap_or, if◌then◌else◌}
use Rattle.std.proofs.lemmas.Simd.{map-map}
use Rattle.wasm_spec.specs.declared.entities.MemoryType.{MemoryType}
use Rattle.wasm_spec.specs.Module.{Module, table_import, imported_of, imported_memories, defined_memories}
use Rattle.rule_spec.specs.Expressions.{AreGlobalsTyped}
use Rattle.rule_spec.specs.Lists.{Lists, lists_of_module}
use Rattle.wasm_types.specs.declared.limits.IndexType.TheVariants.{I32, I64}
use Rattle.wasm_types.specs.Memories.{memory_of, minimum_bytes}
use Rattle.replay_spec.specs.Data.{ActiveSegment, minimum_size, active_segments}
use Rattle.replay_spec.specs.Plan.{MemoryPlan, AgreesOver, Agrees}
use Rattle.replay_spec.specs.Images.{ImageMemory, image_memory_of}
use Rattle.replay_spec.specs.Tables.{TablePlan, AgreesOnTables}
use Rattle.replay_spec.specs.Globals.{AgreesOnGlobals, initialisers}
use Rattle.replay_spec.specs.Elements.{defined_tables}
use Rattle.replay_spec.specs.Held.{held_segments, held_tables, held_elements, held_initialisers}
use Rattle.replay_spec.proofs.GlobalsKnown.{globals-agree}
use Rattle.replay_spec.proofs.GlobalsTyped.{reads-earlier}
use Rattle.replay_spec.proofs.HeldPhases.{values_after-held, reads-held, agrees-held, agrees_on_tables-held}
use Rattle.init_plan.specs.declared.translation.ModuleTranslation.{ModuleTranslation}
use Rattle.init_plan.specs.Views.{initializers_of, defined_sizes}
use Rattle.memory_images.specs.Views.{image_memory, is_wide}
use Rattle.init_plan.specs.Images.{image_memories}
use Rattle.init_plan.specs.Tables.{tables_of, elements_of}
use Rattle.init_plan.specs.Held.{plan_of_globals, HoldsMemories, HoldsTables, HoldsGlobals}
use Rattle.init_plan.specs.Agreement.{AgreesOnElements}

-- ---- memories

after_imports : {X Y : Type 0} (f : X → Y) (imported defined : List X) → drop (length imported) (map f (imported ++ defined)) ≡ map f defined
after_imports f [] defined = refl
after_imports f (x ∷ imported) defined = after_imports f imported defined

image_memory_same : (t : MemoryType) → image_memory (memory_of t) ≡ image_memory_of t
image_memory_same t = by_wide t.memory64 where
  by_wide : (b : Bool) → (let m : ImageMemory = record { wide = is_wide (if b then I64 else I32); pages = t.initial; page_log2 = unwrap_or t.page_size_log2 16 } in m)
      ≡ record { wide = b; pages = t.initial; page_log2 = unwrap_or t.page_size_log2 16 }
  by_wide true = refl
  by_wide false = refl

module _ (m : Module) (t : ModuleTranslation) (holds : HoldsMemories m t) where
  own : drop t.module.num_imported_memories t.module.memories ≡ map memory_of (defined_memories m)
  own = rw (holds.imports, holds.memories) (after_imports memory_of (imported_memories m) (defined_memories m))

  pub memories_same : image_memories t.module ≡ map image_memory_of (defined_memories m)
  memories_same = ap (map image_memory) own ∙ map-map image_memory memory_of (defined_memories m)
      ∙ (λ i. map (λ x. image_memory_same x i) (defined_memories m))

  sizes_same : defined_sizes t.module ≡ map minimum_size (defined_memories m)
  sizes_same = ap (map minimum_bytes) own ∙ map-map minimum_bytes memory_of (defined_memories m)

  pub data_agree : (plan : MemoryPlan) → AgreesOver t.module.num_imported_memories (defined_sizes t.module) (initializers_of t) plan → Agrees m plan
  data_agree plan h =
      agrees-held (length (imported_memories m)) (map minimum_size (defined_memories m)) (active_segments m) plan
      (subst (λ (n : ℕ). AgreesOver n (map minimum_size (defined_memories m)) (held_segments m) plan) holds.imports
      (subst (λ (ns : List ℕ). AgreesOver t.module.num_imported_memories ns (held_segments m) plan) sizes_same
      (subst (λ (ss : List ActiveSegment). AgreesOver t.module.num_imported_memories (defined_sizes t.module) ss plan) holds.active h)))

-- ---- tables and globals

pub elements_agree : (m : Module) (t : ModuleTranslation) (plan : TablePlan) → HoldsTables m t
    → AgreesOnTables t.module.num_imported_tables (tables_of t) (elements_of t) plan → AgreesOnElements m plan
elements_agree m t plan holds h =
    let l : Lists = lists_of_module m in
    let held : AgreesOnTables (length (imported_of table_import m)) (held_tables l) (held_elements l.elements) plan =
    rw (← holds.imports, ← holds.tables, ← holds.active) h in
    agrees_on_tables-held (length (imported_of table_import m)) (defined_tables l) l.elements plan held

pub globals_agree : (m : Module) (t : ModuleTranslation) → HoldsGlobals m t → (let l = lists_of_module m in AreGlobalsTyped l l.imported_globals l.globals)
    → AgreesOnGlobals (lists_of_module m).imported_globals (initialisers (lists_of_module m)) (plan_of_globals t)
globals_agree m t holds typed =
    let l : Lists = lists_of_module m in
    let reads = reads-held l.imported_globals (initialisers l) (reads-earlier l l.imported_globals l.globals typed) in
    λ fields imported count. globals-agree l.imported_globals (held_initialisers l) (plan_of_globals t) reads holds fields imported count
    ∙ values_after-held fields imported (initialisers l)
