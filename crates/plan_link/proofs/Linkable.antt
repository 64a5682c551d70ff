-- The translation of a module and the list of its builder may be registered and linked.
use Rattle.std.proofs.Common.{◌≡◌, ◌∙◌, ◌<◌, ℕ, Bool, List, length, All, Option, Some, None, sym, ap, subst, arith}
use Rattle.std.specs.Prelude.{IfSome}
use Rattle.std.proofs.lemmas.List.{length-map}
use Rattle.wasm_spec.specs.TypeData.{Group}
use Rattle.wasm_spec.specs.Module as plain
use Rattle.rule_spec.specs.Lists.{lists_of_module}
use Rattle.rule_spec.specs.Rules.{Keeps}
use Rattle.type_spec.specs.Interned.{Built, interned}
use Rattle.type_spec.specs.Taken.{NameEarlier}
use Rattle.form_types.specs.Placed.{placed_groups}
use Rattle.wasm_index.specs.declared.index.Index.{Index}
use Rattle.wasm_index.specs.declared.spaces.StaticModuleSpace.{StaticModuleSpace}
use Rattle.wasm_types.specs.declared.tunables.Tunables.{Tunables}
use Rattle.wasm_module.specs.declared.module.Module.{Module}
use Rattle.wasm_module.specs.Record.{record_of}
use Rattle.module_types.specs.Builder.{BuilderState, builder_view}
use Rattle.module_types.specs.TypeList.{TypeList}
use Rattle.module_types.specs.Views.{interned_of}
use Rattle.module_types.proofs.NamingEarlier.{keeps-earlier}
use Rattle.init_plan.specs.declared.translation.ModuleTranslation.{ModuleTranslation}
use Rattle.module_sections.specs.Escapes.{escaping}
use Rattle.module_environ.specs.Translated.{IsTranslated, starts_always}
use Rattle.module_environ.specs.Translation.{HasTypes}
use Rattle.module_sections.specs.Sections.{HasSections}
use Rattle.module_types.specs.Listed.{Listed}
use Rattle.type_registry.specs.Registry.{registry_of, count_of}
use Rattle.type_registry.specs.Keys.{key_number}
use Rattle.import_match.specs.Linking.{IsTypeBelow, exports_of, wants_of}
use Rattle.import_match.specs.ModuleTypes.{types_of}
use Rattle.import_match.specs.Definitions.{Definition}
use Rattle.import_match.specs.Rules.{types_in}
use Rattle.import_match.proofs.ModuleTypes.{exported-types, wanted-types}
use Rattle.plan_link.specs.Linkable.{IsLinkable}
use Rattle.plan_link.proofs.TypesBelow.{startup-below, all-below}
use Rattle.plan_link.proofs.Found.{HasEntitiesOf, imports-resolved, exports-resolved}

-- a translation of a module has its entities
pub entities-of : (debugged : Bool) (m : plain.Module) (validator : ℕ) (t : ModuleTranslation) → HasTypes m validator t → HasSections debugged m t
    → HasEntitiesOf m t.module
entities-of debugged m validator t types sections =
    let entities = sections.entities in
    record {
      types = record {
        types = types.declared;
        order = escaping debugged (lists_of_module m);
        functions = sections.escapes.functions;
        tables = entities.tables;
        globals = entities.globals;
        tags = types.tags;
      };
      memories = entities.memories;
      imports = entities.imports;
      exports = entities.exports;
      import_names = entities.pooled.imports;
      export_names = entities.pooled.exports;
    }

-- what is held under a key names only types that are below its count
have-types : (count : ℕ) (ds : List Definition) → All (λ (d : Definition). All (IsTypeBelow count) (types_in d.1)) ds → (held : Option ℕ)
    → IfSome held (λ n. n ≡ count) → IfSome held (λ n. All (λ (d : Definition). All (IsTypeBelow n) (types_in d.1)) ds)
have-types count ds all None same = tt
have-types count ds all (Some n) same = subst (λ (k : ℕ). All (λ (d : Definition). All (IsTypeBelow k) (types_in d.1)) ds) (sym same) all

-- a record that has the entities of a module that keeps the rules, whose types are among those of a
-- list that may be registered
module _ (m : plain.Module) (keeps : Keeps m) (r : Module) (has : HasEntitiesOf m r) (l : TypeList)
    (below : All (IsTypeBelow (length l.types)) (types_of r)) where
  pub linkable-of : Listed l → length l.types < 4294967295 → IsLinkable r l
  linkable-of listed few = record {
    listed = listed;
    few = few;
    exports = λ registry key from has_count. record {
      resolved = exports-resolved m keeps r has;
      types = have-types (length l.types) (exports_of (record_of r) from) (exported-types (IsTypeBelow (length l.types)) r below from)
          (count_of (registry_of registry) (key_number key)) has_count;
    };
    imports = λ registry key has_count. record {
      resolved = imports-resolved m keeps r has;
      types = have-types (length l.types) (wants_of (record_of r)) (wanted-types (IsTypeBelow (length l.types)) r below)
          (count_of (registry_of registry) (key_number key)) has_count;
    };
  }

-- ---- a translation, and the list of its builder

-- a list that a builder of the interned types holds may be registered
abbrev pub BuiltMayBeListed : Type 0
BuiltMayBeListed = (s : BuilderState) (ms : List (Group ℕ ℕ)) (tags : List ℕ) (startup : Bool) → NameEarlier 0 ms
    → (builder_view s).built ≡ interned ms tags startup → length s.list.types < 4294967295 → Listed s.list

module _ (may : BuiltMayBeListed) (tunables : Tunables) (module_index : Index StaticModuleSpace) (validator : ℕ) (bytes : List ℕ)
    (t : ModuleTranslation) (b : BuilderState) (is : IsTranslated tunables module_index validator bytes t b) where
  pub linkable : IsLinkable t.module b.list
  linkable =
      let m = is.meaning in
      let counted = ap (λ (c : Built). length c.types) (sym is.types.built) ∙ length-map b.list.types interned_of in
      let few : length b.list.types < 4294967295 = omega (arith, length-map b.list.types interned_of, is.types.room) in
      let has = entities-of tunables.debug_guest m validator t is.translation.types is.translation.sections in
      linkable-of m is.keeps t.module has b.list
      (all-below m is.keeps (starts_always m) (length b.list.types) counted t.module has.types
      (startup-below m is.keeps (starts_always m) (length b.list.types) counted t.module.startup is.translation.startup))
      (may b (placed_groups m) (plain.tags m) (starts_always m) (keeps-earlier m is.keeps) is.types.built few) few
