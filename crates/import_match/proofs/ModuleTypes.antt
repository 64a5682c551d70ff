-- The types that what a module exports and imports names are among those that the module names.
use Rattle.std.proofs.Common.{◌≡◌, ◌∙◌, ℕ, List, [], ◌∷◌, ◌++◌, map, slice_get, All, Option, Some, None, refl, sym, ap, subst, arith}
use Rattle.std.specs.Prelude.{option_and_then}
use Rattle.std.specs.List.{filter_map, flat_map}
use Rattle.std.specs.Option.{option_map}
use Rattle.std.proofs.lemmas.Option.{none-some, same_Some, slice_get-map}
use Rattle.std.proofs.lemmas.List.Elements.{All-nil, All-cons, All-map}
use Rattle.type_spec.specs.Names.{index_of as index_in}
use Rattle.wasm_index.specs.Index.{number_of}
use Rattle.entity_map.specs.declared.pool.Atom.{Atom}
use Rattle.wasm_types.specs.declared.index.EngineOrModuleTypeIndex.{EngineOrModuleTypeIndex}
use Rattle.wasm_types.specs.declared.entity.EntityIndex.{EntityIndex}
use Rattle.wasm_types.specs.declared.entity.EntityIndex.TheVariants as index
use Rattle.wasm_types.specs.declared.entity.EntityType.{EntityType}
use Rattle.wasm_types.specs.declared.entity.EntityType.TheVariants as entity
use Rattle.wasm_types.specs.declared.table.Table.{Table}
use Rattle.wasm_types.specs.declared.global.Global.{Global}
use Rattle.wasm_types.specs.declared.tag.Tag.{Tag}
use Rattle.wasm_types.specs.EntityData.{table_edges, global_edges, tag_edges}
use Rattle.wasm_types.specs.EntityViews.{table_of, global_of, tag_of}
use Rattle.wasm_module.specs.declared.function.FunctionType.{FunctionType}
use Rattle.wasm_module.specs.declared.initializer.Initializer.{Initializer}
use Rattle.wasm_module.specs.declared.initializer.Initializer.TheVariants as initializer
use Rattle.wasm_module.specs.declared.module.Module.{Module as Record}
use Rattle.wasm_module.specs.Record.{record_of}
use Rattle.wasm_module.specs.Entities.{entity_type}
use Rattle.wasm_module.specs.Imports.{text_of, import_of, imports_of}
use Rattle.wasm_module.specs.ModuleData.{FunctionData, type_of_space, function_of, startup_of}
use Rattle.wasm_module.specs.ModuleShapes.{startup_edges}
use Rattle.form_types.proofs.AllOf.{All-parts, All-joined}
use Rattle.import_match.specs.Rules.{types_in}
use Rattle.import_match.specs.Definitions.{Definition}
use Rattle.import_match.specs.Linking.{export_of, exports_of, wants_of}
use Rattle.import_match.specs.ModuleTypes.{types_of}
use Rattle.import_match.proofs.Linked.{Import, want_of}
use Rattle.import_match.proofs.Listing.{mapped, All-slice_get}

-- what holds of all that items give holds of what the item at a position gives
all-at : {X Y : Type 0} (P : Y → Type 0) (f : X → List Y) (xs : List X) (i : ℕ) (x : X) → All P (flat_map f xs) → slice_get xs i ≡ Some x → All P (f x)
all-at P f xs i x all at = All-slice_get (λ y. All P (f y)) xs i x ((All-parts P f xs).0 all) at

-- the types that entities of a kind name are those of the list of that kind
entity-at : {X Y : Type 0} (P : EngineOrModuleTypeIndex → Type 0) (f : X → EntityType) (view : X → Y) (edges : Y → List EngineOrModuleTypeIndex) (xs : List X) (i : ℕ) (t : EntityType)
    → ((x : X) → types_in (f x) ≡ edges (view x)) → All P (flat_map edges (map view xs)) → option_map f (slice_get xs i) ≡ Some t → All P (types_in t)
entity-at P f view edges xs i t same all is =
    let x = mapped f (slice_get xs i) t is in
    subst (λ u. All P (types_in u)) x.2
    (subst (All P) (sym (same x.0)) (all-at P edges (map view xs) i (view x.0) all (slice_get-map view xs i ∙ ap (option_map view) x.1)))

-- what holds of each value that an item gives holds of all
all-given : {X Y : Type 0} (P : Y → Type 0) (f : X → Option Y) → ((x : X) (y : Y) → f x ≡ Some y → P y) → (xs : List X) → All P (filter_map f xs)
all-given P f each [] = All-nil P
all-given {Y = Y} P f each (x ∷ xs) = grind (arith, All-cons, (all-given P f each xs))

abbrev Types : Type 0
Types = List EngineOrModuleTypeIndex

-- the types of the lists of a module, one list after another
module _ (m : Record) where
  abbrev spaces : Types
  spaces = flat_map (λ (x : EngineOrModuleTypeIndex). x ∷ []) (map type_of_space m.types)

  abbrev functions : Types
  functions = flat_map (λ (f : FunctionData EngineOrModuleTypeIndex). f.signature ∷ []) (map function_of m.functions)

  abbrev tables : Types
  tables = flat_map (table_edges index_in) (map table_of m.tables)

  abbrev globals : Types
  globals = flat_map (global_edges index_in) (map global_of m.globals)

  abbrev tags : Types
  tags = flat_map tag_edges (map tag_of m.tags)

  abbrev after_tags : Types
  after_tags = startup_edges (startup_of m.startup)

module _ (P : EngineOrModuleTypeIndex → Type 0) (m : Record) (all : All P (types_of m)) where
  each : All P (functions m) × All P (tables m) × All P (globals m) × All P (tags m)
  each =
      let ends = tags m ++ after_tags m in
      let a = ((All-joined P (spaces m) (functions m ++ (tables m ++ (globals m ++ ends)))).0 all).1 in
      let b = (All-joined P (functions m) (tables m ++ (globals m ++ ends))).0 a in
      let c = (All-joined P (tables m) (globals m ++ ends)).0 b.1 in
      let d = (All-joined P (globals m) ends).0 c.1 in
      (b.0, c.0, d.0, ((All-joined P (tags m) (after_tags m)).0 d.1).0)

  -- the types that an entity of the module names
  pub entity-types : (e : EntityIndex) (t : EntityType) → entity_type (record_of m) e ≡ Some t → All P (types_in t)
  entity-types (index.Function i) t is = entity-at P (λ (f : FunctionType). entity.Function f.signature) function_of (λ f. f.signature ∷ []) m.functions (number_of i) t (λ x. refl) each.0 is
  entity-types (index.Table i) t is = entity-at P (λ (y : Table). entity.Table y) table_of (table_edges index_in) m.tables (number_of i) t (λ x. refl) each.1 is
  entity-types (index.Memory i) t is = grind (arith, mapped, All-nil)
  entity-types (index.Global i) t is = entity-at P (λ (y : Global). entity.Global y) global_of (global_edges index_in) m.globals (number_of i) t (λ x. refl) each.2 is
  entity-types (index.Tag i) t is = entity-at P (λ (y : Tag). entity.Tag y) tag_of tag_edges m.tags (number_of i) t (λ x. refl) each.3 is

  abbrev NamesOwn : Definition → Type 0
  NamesOwn d = All P (types_in d.1)

  export-types : (from : List ℕ) (x : Atom × EntityIndex) (d : Definition) → export_of (record_of m) from x ≡ Some d → NamesOwn d
  export-types from x d is = by (text_of (record_of m) x.0) (entity_type (record_of m) x.1) refl is
    where
      by : (o : Option (List ℕ)) (t : Option EntityType) → entity_type (record_of m) x.1 ≡ t
          → option_and_then (λ (own : List ℕ). option_map (λ (u : EntityType). ((from, own), u)) t) o ≡ Some d → NamesOwn d
      by (Some own) (Some u) at h = subst NamesOwn (same_Some ((from, own), u) d h) (entity-types x.1 u at)
      by _ _ _ h = absurd (none-some d h)

  pub exported-types : (from : List ℕ) → All NamesOwn (exports_of (record_of m) from)
  exported-types from = all-given NamesOwn (export_of (record_of m) from) (export-types from) m.exports.entries

  import-types : (x : Initializer) (i : Import) → import_of (record_of m) x ≡ Some i → NamesOwn (want_of i)
  import-types (initializer.Import name field e) i is =
      by (text_of (record_of m) name) (text_of (record_of m) field) (entity_type (record_of m) e) refl is
    where
      by : (f o : Option (List ℕ)) (t : Option EntityType) → entity_type (record_of m) e ≡ t
          → option_and_then (λ (from : List ℕ). option_and_then (λ (own : List ℕ). option_map (λ (u : EntityType). (from, own, u)) t) o) f ≡ Some i
          → NamesOwn (want_of i)
      by (Some from) (Some own) (Some u) at h = subst (λ j. NamesOwn (want_of j)) (same_Some (from, own, u) i h) (entity-types e u at)
      by _ _ _ _ h = absurd (none-some i h)

  pub wanted-types : All NamesOwn (wants_of (record_of m))
  wanted-types =
      All-map NamesOwn want_of (imports_of (record_of m) m.initializers.items)
      (all-given (λ i. NamesOwn (want_of i)) (import_of (record_of m)) import-types m.initializers.items)
