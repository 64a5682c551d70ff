-- The parts of a translation together: all but its bytes and its code.
use Rattle.std.proofs.Common.{◌≡◌, ℕ, ◌+◌, ◌<◌, ◌^◌, Bool, true, false, List, length, map, Some, Result, Err, sym, ap, subst, ◌∙◌, [], ◌∷◌, None, arith, length-append, Option, refl}
use Rattle.std.specs.Prelude.{not, ◌&&◌, is_none, slice_get}
use Rattle.std.specs.List.{filter, filter_map, enumerate_from}
use Rattle.std.specs.Option.{option_map}
use Rattle.wasm_spec.specs.Module.{function_import, Expression, GlobalDef}
use Rattle.wasm_spec.specs.Module as plain
use Rattle.rule_spec.specs.declared.rules.Rule.{Rule}
use Rattle.rule_spec.specs.Lists.{lists_of_module}
use Rattle.rule_spec.specs.Rules.{Satisfies, Keeps, KeepsBefore}
use Rattle.type_spec.specs.Interned.{Built, with_startup as built_startup, startup_type}
use Rattle.form_rules.specs.declared.error.CheckError.{CheckError}
use Rattle.form_rules.specs.declared.error.CheckError.TheVariants as checks
use Rattle.form_types.specs.Numbered.{AreNumbered}
use Rattle.form_types.specs.Types.{TypesData}
use Rattle.wasm_index.specs.Index.{index_of, number_of}
use Rattle.wasm_types.specs.declared.index.EngineOrModuleTypeIndex.{EngineOrModuleTypeIndex}
use Rattle.wasm_types.specs.declared.index.EngineOrModuleTypeIndex.TheVariants.{Module}
use Rattle.wasm_types.specs.declared.tag.Tag.{Tag}
use Rattle.wasm_types.specs.declared.tunables.Tunables.{Tunables}
use Rattle.wasm_module.specs.declared.startup.ModuleStartup.{ModuleStartup}
use Rattle.wasm_module.specs.declared.startup.ModuleStartup.TheVariants as startup
use Rattle.wasm_module.specs.Record.{ModuleRecord}
use Rattle.module_types.specs.Builder.{Builder, BuilderState, builder_view, starts, starts_by, or_next}
use Rattle.replay_spec.specs.Startup.{Always, is_empty, kept_globals, passive_elements}
use Rattle.replay_spec.specs.Globals.{kept_of}
use Rattle.replay_spec.specs.Values.{const_value}
use Rattle.init_plan.specs.declared.translation.ModuleTranslation.{ModuleTranslation}
use Rattle.init_plan.specs.Startup.{raised, types_after, with_startup}
use Rattle.init_plan.specs.Views.{types_of, IsNewTranslation}
use Rattle.module_environ.specs.Errors.{error_of_check}
use Rattle.module_environ.specs.Customs.{HasCustoms}
use Rattle.module_environ.specs.Pooled.{pool_of}
use Rattle.interned_types.specs.Tagged.{tags_of, GainsExceptions}
use Rattle.module_sections.specs.Entities.{count_of}
use Rattle.interned_types.specs.Types.{declared, type_index, interned_list, HoldsGroupsAlone}
use Rattle.module_environ.specs.Translation.{startup_when}
use Rattle.module_sections.specs.Sections.{HasSections}
use Rattle.module_environ.specs.Translated.{starts_always, HoldsInternedTypes, startup_index_when}
use Rattle.module_sections.specs.Filling.{LeavesRest}
use Rattle.module_environ.specs.Forming.{IsFormed, FormCause}
use Rattle.module_sections.specs.Initialisers.{initialisers, view_initialiser, view_items}

-- ---- when startup is known to run, of a module and of its translation

empty-map : {A B : Type 0} (f : A → B) (xs : List A) → is_empty (map f xs) ≡ is_empty xs
empty-map f [] = refl
empty-map f (x ∷ xs) = refl

-- the remaining initialisers, with and without their numbers
empty-left : (n : ℕ) (es : List Expression) → is_empty (filter_map kept_of (enumerate_from n es)) ≡ is_empty (filter (λ e. is_none (const_value e)) es)
empty-left n [] = refl
empty-left n (e ∷ es) = grind (arith, empty-left (n + 1) es)

none-first : {A : Type 0} (f : A → ℕ) (o : Option A) (ns : List ℕ) → option_map f o ≡ slice_get ns 0 → is_none o ≡ is_empty ns
none-first f None [] e = refl
none-first f _ _ e = grind arith

-- a translation that holds the sections of a module starts where the module does
module _ (debugged : Bool) (m : plain.Module) (t : ModuleTranslation) (s : HasSections debugged m t) where
  left-empty : is_empty t.global_initializers.items ≡ is_empty (kept_globals (lists_of_module m).globals)
  left-empty =
      let globals = (lists_of_module m).globals in
      sym (empty-map (view_initialiser (λ e. e)) t.global_initializers.items) ∙ ap is_empty s.globals.left
      ∙ empty-map _ (filter_map kept_of (initialisers globals))
      ∙ empty-left 0 (map (λ (g : GlobalDef). g.init) globals)

  start-none : is_none t.start_func ≡ is_empty (lists_of_module m).starts
  start-none = none-first number_of t.start_func (lists_of_module m).starts s.entities.start

  passive-empty : is_empty t.passive_elements ≡ is_empty (passive_elements (lists_of_module m).elements)
  passive-empty =
      sym (empty-map view_items t.passive_elements) ∙ ap is_empty s.elements.passive ∙ empty-map _ (passive_elements (lists_of_module m).elements)

  abbrev starting : Bool → Bool → Bool → Bool
  starting a b c = not (a && b && c)

  starts-is : starting (is_empty t.global_initializers.items) (is_none t.start_func) (is_empty t.passive_elements) ≡ starts_always m
  starts-is = λ i. starting (left-empty i) (start-none i) (passive-empty i)

-- ---- the builder and startup, once tags are converted

module _ (m : plain.Module) (validator : ℕ) (groups tagged : Builder) (alone : HoldsGroupsAlone validator groups) (gains : GainsExceptions groups tagged)
    (built : tagged.built ≡ interned_list m false) (few : length tagged.built.types < 2 ^ 31 + 2 ^ 30) where
  no-startup : tagged.startup ≡ None
  no-startup = ap (λ (b : Builder). b.startup) gains ∙ ap (λ (b : Builder). b.startup) alone

  usable : tagged.is_poisoned ≡ false
  usable = ap (λ (b : Builder). b.is_poisoned) gains ∙ ap (λ (b : Builder). b.is_poisoned) alone

  -- where startup is not known to run
  never-holds : false ≡ starts_always m → HoldsInternedTypes m tagged
  never-holds never = record {
    built = built ∙ ap (interned_list m) never;
    startup = no-startup ∙ ap (startup_index_when m) never;
    sound = usable;
    room = omega (arith, few);
  }

  -- and where it is
  tagged-starts : starts tagged ≡ starts_by tagged None
  tagged-starts = ap (starts_by tagged) no-startup

  module _ (always : true ≡ starts_always m) (after : Builder) (gained : after ≡ types_after Always startup.None tagged) where
    after-is : after ≡ starts_by tagged None
    after-is = gained ∙ tagged-starts

    always-holds : HoldsInternedTypes m after
    always-holds = record {
      built = ap (λ (b : Builder). b.built) after-is ∙ ap (λ (b : Built). built_startup b true) built ∙ ap (interned_list m) always;
      startup = ap (λ (b : Builder). b.startup) after-is ∙ ap (λ (b : Built). Some (length b.types)) built ∙ ap (startup_index_when m) always;
      sound = ap (λ (b : Builder). b.is_poisoned) after-is ∙ usable;
      room =
          let long = ap (λ (b : Builder). length b.built.types) after-is in
          omega (arith, long, length-append tagged.built.types (startup_type ∷ []), few);
    }

  always-raised : true ≡ starts_always m → raised Always startup.None tagged ≡ startup_when m (starts_always m)
  always-raised always =
      ap (λ o. startup.Always (Module (index_of (or_next o (length tagged.built.types))))) no-startup
      ∙ ap (λ (b : Built). startup.Always (Module (index_of (length b.types)))) built ∙ ap (startup_when m) always

-- ---- causes

pub check-cause : {A : Type 0} (m : plain.Module) (poisoned : Bool) (r : Result A CheckError) (e : CheckError) → r ≡ Err e
    → ((rule : Rule) → r ≡ Err (checks.Invalid rule) → Satisfies rule (lists_of_module m) → ⊥)
    → ((rule : Rule) → r ≡ Err (checks.Invalid rule) → KeepsBefore rule m) → FormCause m poisoned (error_of_check e)
check-cause m poisoned r (checks.Invalid rule) was broken first = (broken rule was, first rule was)
check-cause m poisoned r checks.OutOfMemory was broken first = tt

-- ---- the complete translation

pub new-startup : {index : _} (t : ModuleTranslation) → IsNewTranslation index t → t.module.startup ≡ startup.None
new-startup t new = ap (λ (r : ModuleRecord). r.startup) new.record_of_module

module _ (tunables : Tunables) (validator : ℕ) (m : plain.Module) (old filled set : ModuleTranslation) (keeps : Keeps m)
    (sections : HasSections tunables.debug_guest m filled) (customs : HasCustoms tunables m filled)
    (pooled : filled.module.strings ≡ pool_of tunables.debug_native m)
    (imports : filled.debuginfo.wasm_file.imported_func_count ≡ count_of function_import (plain.imports m)) (rest : LeavesRest old filled)
    (none : old.module.startup ≡ startup.None) (indices : List EngineOrModuleTypeIndex) (tags : List Tag) (ids : TypesData)
    (same : set ≡ record filled { «module» = record filled.module { types = indices; tags = tags }; private_parts = record filled.private_parts { types = set.private_parts.types } })
    (is-set : types_of set ≡ Some ids) (numbered : AreNumbered m ids) (made : ids.validator ≡ validator)
    (listed : indices ≡ map type_index (declared m)) (tagged-so : tags ≡ tags_of m) where
  abbrev laid : ModuleStartup → ModuleTranslation
  laid s = record filled {
    «module» = record filled.module { types = indices; tags = tags; startup = s };
    private_parts = record filled.private_parts { types = set.private_parts.types };
  }

  whole : (s : ModuleStartup) (b : BuilderState) → s ≡ startup_when m (starts_always m) → HoldsInternedTypes m (builder_view b)
      → IsFormed tunables validator m old (laid s) b
  whole s b is holds = record {
    keeps = keeps;
    types = record {
      declared = listed;
      tags = tagged-so;
      types = ids;
      set = is-set;
      numbered = numbered;
      made = made;
    };
    sections = sections;
    customs = customs;
    strings = pooled;
    imports = imports;
    startup = is;
    builder = holds;
    index = rest.index;
    offset = rest.offset;
  }

  set-startup : set.module.startup ≡ startup.None
  set-startup = ap (λ (t : ModuleTranslation). t.module.startup) same ∙ rest.startup ∙ none

  abbrev nothing : Bool
  nothing = is_empty set.global_initializers.items && is_none set.start_func && is_empty set.passive_elements

  runs : not nothing ≡ starts_always m
  runs = starts-is tunables.debug_guest m set (subst (HasSections tunables.debug_guest m) (sym same) sections)

  module _ (groups tagged : Builder) (alone : HoldsGroupsAlone validator groups) (gains : GainsExceptions groups tagged)
      (built : tagged.built ≡ interned_list m false) (few : length tagged.built.types < 2 ^ 31 + 2 ^ 30) where
    -- nothing is to be run
    pub formed-never : true ≡ nothing → (b : BuilderState) → builder_view b ≡ tagged → IsFormed tunables validator m old set b
    formed-never is b shows =
        let never : false ≡ starts_always m = ap not is ∙ runs in
        subst (λ (t : ModuleTranslation). IsFormed tunables validator m old t b) (sym same)
        (whole filled.module.startup b (rest.startup ∙ none ∙ ap (startup_when m) never)
        (subst (HoldsInternedTypes m) (sym shows) (never-holds m validator groups tagged alone gains built few never)))

    -- startup is known to run
    pub formed-always : false ≡ nothing → (u : ModuleTranslation) (b : BuilderState)
        → u ≡ with_startup set (raised Always set.module.startup tagged) → builder_view b ≡ types_after Always set.module.startup tagged
        → IsFormed tunables validator m old u b
    formed-always is u b raises gained =
        let always : true ≡ starts_always m = ap not is ∙ runs in
        subst (λ (t : ModuleTranslation). IsFormed tunables validator m old t b)
        (sym (raises ∙ (λ i. with_startup (same i) (raised Always (set-startup i) tagged))))
        (whole (raised Always startup.None tagged) b (always-raised m validator groups tagged alone gains built few always)
        (always-holds m validator groups tagged alone gains built few always (builder_view b)
        (gained ∙ ap (λ s. types_after Always s tagged) set-startup)))
