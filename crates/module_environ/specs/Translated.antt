-- What `translate` returns: the translation of the module that the bytes spell, ready to be
-- planned, and the builder with its types.
use Rattle.std.specs.Prelude.{◌≡◌, ℕ, ◌+◌, ◌<◌, Bool, true, false, List, length, not, Option, Some, None}
use Rattle.wasm_spec.specs.Module as plain
use Rattle.rule_spec.specs.Lists.{lists_of_module}
use Rattle.rule_spec.specs.Rules.{Keeps}
use Rattle.replay_spec.specs.Startup.{leaves_nothing}
use Rattle.wasm_index.specs.declared.index.Index.{Index}
use Rattle.wasm_index.specs.declared.spaces.StaticModuleSpace.{StaticModuleSpace}
use Rattle.wasm_types.specs.declared.tunables.Tunables.{Tunables}
use Rattle.module_types.specs.Builder.{Builder, BuilderState, builder_view}
use Rattle.init_plan.specs.declared.translation.ModuleTranslation.{ModuleTranslation}
use Rattle.init_plan.specs.Held.{HoldsMemories, HoldsTables, HoldsGlobals}
use Rattle.init_plan.specs.Ready.{MemoryHalfIsReady}
use Rattle.init_plan.specs.Tables.{TableHalfIsReady}
use Rattle.interned_types.specs.Types.{interned_list}
use Rattle.module_environ.specs.Readable.{IsReadable}
use Rattle.module_environ.specs.Translation.{IsTranslation}

-- whether startup is known to run: an initialiser of a global remains, or there is a start function
-- or a passive element segment
abbrev pub starts_always : plain.Module → Bool
starts_always m = not (leaves_nothing (lists_of_module m))

-- the startup type is the last, where there is one
abbrev pub startup_index_when : plain.Module → Bool → Option ℕ
startup_index_when m false = None
startup_index_when m true = Some (length (interned_list m false).types)

-- the builder holds the interned types of the module, with a startup type where startup is known to
-- run, and is not poisoned
pub record HoldsInternedTypes (m : plain.Module) (b : Builder) : Type 0 where
  pub built : b.built ≡ interned_list m (starts_always m)
  pub startup : b.startup ≡ startup_index_when m (starts_always m)
  pub sound : b.is_poisoned ≡ false
  pub room : length b.built.types + 1 < 4294967295

-- memories and tables may be planned, and the translation holds the lists of the module that their
-- plans refer to
pub record IsReady (m : plain.Module) (t : ModuleTranslation) : Type 0 where
  pub memories : MemoryHalfIsReady t
  pub tables : TableHalfIsReady t
  pub holds_memories : HoldsMemories m t
  pub holds_tables : HoldsTables m t
  pub holds_globals : HoldsGlobals m t

-- the bytes spell a module that keeps the listed rules, and these are its translation and its types
pub record IsTranslated (tunables : Tunables) (module_index : Index StaticModuleSpace) (validator : ℕ) (bytes : List ℕ) (t : ModuleTranslation)
    (b : BuilderState) : Type 0 where
  pub meaning : plain.Module
  pub read : IsReadable bytes meaning
  pub keeps : Keeps meaning
  pub translation : IsTranslation tunables module_index validator bytes meaning t
  pub ready : IsReady meaning t
  pub types : HoldsInternedTypes meaning (builder_view b)
