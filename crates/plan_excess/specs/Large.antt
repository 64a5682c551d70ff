-- Types and tags of a module whose objects are too large, and a context that is.
use Rattle.std.specs.Prelude.{◌≡◌, ℕ, ◌<◌, false, length, Option, Some, None, slice_get}
use Rattle.wasm_spec.specs.Module.{Module, types, tags}
use Rattle.wasm_types.specs.declared.sub.WasmSubType.{WasmSubType}
use Rattle.module_types.specs.Views.{interned_of}
use Rattle.command_words.specs.declared.command.Collector.{Collector}
use Rattle.gc_layout.specs.Objects.{gc_layout_of, fixed_size}
use Rattle.replay_spec.specs.Plan.{MemoryPlan}
use Rattle.replay_spec.specs.Tables.{TablePlan}
use Rattle.interned_types.specs.Types.{interned_at, interned_list, exception_at}
use Rattle.translate.specs.Contexts.{size_of_context}
use Rattle.translate.specs.Options.{Options, header_size, PlansMemories, PlansTables}
use Rattle.plan_excess.specs.declared.kinds.ExcessKind.{ExcessKind}
use Rattle.plan_excess.specs.declared.kinds.ExcessKind.TheVariants as kind

module _ (c : Collector) (m : Module) where
  -- an object of the interned type with this index passes 4294967295 bytes; of an array, what is
  -- before its elements
  pub record IsLargeAt (index : ℕ) : Type 0 where
    pub type : WasmSubType
    pub interned : slice_get (interned_list m false).types index ≡ Some (interned_of type)
    pub large : 4294967295 < fixed_size (gc_layout_of (header_size c) type.composite_type.inner)

  -- an object of the declared type does
  pub record IsLargeType (i : ℕ) : Type 0 where
    pub declared : i < length (types m)
    pub large : IsLargeAt (interned_at m i)

  -- an exception of the tag does; the tag has the function type with this index
  pub record IsLargeException (tag : ℕ) : Type 0 where
    pub function : ℕ
    pub stands : slice_get (tags m) tag ≡ Some function
    pub large : IsLargeAt (exception_at m function)

  -- no object of a declared type does
  abbrev pub HasSmallObjects : Type 0
  HasSmallObjects = (i : ℕ) → ¬ IsLargeType i

  abbrev pub HasSmallExceptions : Type 0
  HasSmallExceptions = (tag : ℕ) → ¬ IsLargeException tag

  -- the first declared type whose objects do; where there is none, the first tag whose exceptions
  -- do; none where no object and no exception does
  abbrev pub IsFirstLarge : Option ExcessKind → Type 0
  IsFirstLarge None = HasSmallObjects × HasSmallExceptions
  IsFirstLarge (Some (kind.Object i)) = IsLargeType i × ((j : ℕ) → j < i → ¬ IsLargeType j)
  IsFirstLarge (Some (kind.Exception tag)) = HasSmallObjects × IsLargeException tag × ((j : ℕ) → j < tag → ¬ IsLargeException j)
  IsFirstLarge (Some _) = ⊥

-- with some plans of memories and tables, of which all give the same size, the context passes
-- 4294967295 bytes
pub record IsLargeContext (o : Options) (m : Module) : Type 0 where
  pub memories : MemoryPlan
  pub tables : TablePlan
  pub memory_plan : PlansMemories o.init m memories
  pub table_plan : PlansTables o.init m tables
  pub large : 4294967295 < size_of_context o m memories tables
