-- The interned types of a translation, as the calls that plan it leave them in the builder.
use Rattle.std.proofs.Common.{◌≡◌, ◌∙◌, ℕ, Bool, true, false, List, length, map, Option, Some, sym, ap, subst}
use Rattle.wasm_spec.specs.Module.{Module}
use Rattle.wasm_index.specs.declared.index.Index.{Index}
use Rattle.wasm_index.specs.declared.spaces.StaticModuleSpace.{StaticModuleSpace}
use Rattle.wasm_types.specs.declared.tunables.Tunables.{Tunables}
use Rattle.wasm_module.specs.declared.startup.ModuleStartup.{ModuleStartup}
use Rattle.wasm_module.specs.declared.startup.ModuleStartup.TheVariants as startup
use Rattle.type_spec.specs.Interned.{Built, with_startup}
use Rattle.module_types.specs.Builder.{Builder, BuilderState, builder_view, starts, starts_by}
use Rattle.module_types.specs.TypeList.{TypeList}
use Rattle.module_types.specs.Views.{interned_of}
use Rattle.replay_spec.specs.Images.{ImageOptions}
use Rattle.replay_spec.specs.Startup.{Startup, Never, Always, IfMemoriesNeedInit}
use Rattle.init_plan.specs.declared.translation.ModuleTranslation.{ModuleTranslation}
use Rattle.init_plan.specs.Startup.{types_after}
use Rattle.interned_types.specs.Types.{declared, interned_list, type_index}
use Rattle.module_environ.specs.Translated.{IsTranslated, HoldsInternedTypes, startup_index_when, starts_always}
use Rattle.translate.proofs.Unchanged.{both-planned}
use Rattle.plan_run.specs.Agreement.{HasFieldsOf}
use Rattle.run_laws.specs.Planned.{MemoriesArePlanned, TablesArePlanned, GainsStartup}
use Rattle.run_laws.proofs.ModuleFields.{has-fields}

-- the builder holds the interned types of a module, with a startup type or without
pub record HoldsListed (m : Module) (b : Builder) : Type 0 where
  pub starts : Bool
  pub built : b.built ≡ interned_list m starts
  pub index : b.startup ≡ startup_index_when m starts

module _ (m : Module) where
  starts-by : (b : Builder) (v : Bool) → b.built ≡ interned_list m v → b.startup ≡ startup_index_when m v → HoldsListed m (starts b)
  starts-by b true built index = subst (λ (o : Option ℕ). HoldsListed m (starts_by b o)) (sym index) (record { starts = true; built = built; index = index })
  starts-by b false built index = subst (λ (o : Option ℕ). HoldsListed m (starts_by b o)) (sym index) (record {
    starts = true;
    built = ap (λ (x : Built). with_startup x true) built;
    index = ap (λ (x : Built). Some (length x.types)) built;
  })

  after : (kind : Startup) (s : ModuleStartup) (b : Builder) → HoldsListed m b → HoldsListed m (types_after kind s b)
  after Never s b h = h
  after Always startup.None b h = starts-by b h.starts h.built h.index
  after Always (startup.Always ty) b h = h
  after Always (startup.IfMemoriesNeedInit ty) b h = h
  after IfMemoriesNeedInit startup.None b h = starts-by b h.starts h.built h.index
  after IfMemoriesNeedInit (startup.Always ty) b h = h
  after IfMemoriesNeedInit (startup.IfMemoriesNeedInit ty) b h = h

  first : (b : Builder) → HoldsInternedTypes m b → HoldsListed m b
  first b h = record { starts = starts_always m; built = h.built; index = h.startup }

  gained : (t : ModuleTranslation) (old new : BuilderState) → GainsStartup t old new → HoldsListed m (builder_view old) → HoldsListed m (builder_view new)
  gained t old new gains h = rw gains.types (after gains.kind t.module.startup (builder_view old) h)

module _ (tunables : Tunables) (index : Index StaticModuleSpace) (validator : ℕ) (bytes : List ℕ) (types mid_types new_types : BuilderState) (options : ImageOptions)
    (lazy : Bool) (old mid new : ModuleTranslation) (list : TypeList) (told : IsTranslated tunables index validator bytes old types) (memories : MemoriesArePlanned options old mid)
    (first_gains : GainsStartup old types mid_types) (tables : TablesArePlanned lazy mid new) (then_gains : GainsStartup mid mid_types new_types)
    (finished : list ≡ new_types.list) where
  held : HoldsListed told.meaning (builder_view new_types)
  held = gained told.meaning mid mid_types new_types then_gains
      (gained told.meaning old types mid_types first_gains (first told.meaning (builder_view types) told.types))

  listed : new.module.types ≡ map type_index (declared told.meaning)
  listed = ap (λ (x : ModuleTranslation). x.module.types) (both-planned old mid new memories.same tables.same) ∙ told.translation.types.declared

  pub translated-fields : HasFieldsOf told.meaning new list
  translated-fields = has-fields told.meaning new list held.starts told.keeps listed
      (ap (λ (l : TypeList). map interned_of l.types) finished ∙ ap (λ (x : Built). x.types) held.built)
