-- What the record of a translated module imports and exports has its names in the pool, and its
-- entity in the record.
use Rattle.std.proofs.Common.{◌≡◌, ◌∙◌, ◌<◌, ℕ, List, [], ◌∷◌, ◌++◌, length, get_or, map, slice_get, All, Option, Some, refl, ap, arith, length-append, append_assoc}
use Rattle.std.specs.Prelude.{IsSome, is_some}
use Rattle.std.specs.List.{cons_option, filter_map, flat_map, enumerate_from}
use Rattle.std.specs.Option.{option_map}
use Rattle.std.proofs.lemmas.List.{length-map}
use Rattle.std.proofs.lemmas.List.FromFn.{length-enumerate_from}
use Rattle.std.proofs.lemmas.List.Elements.{All-nil, All-cons, All-map, All-same, All-weaker, filter_map-append}
use Rattle.std.proofs.lemmas.Option.{slice_get-get_or}
use Rattle.entity_map.specs.Pool.{atom_number}
use Rattle.entity_map.specs.declared.pool.Atom.{Atom}
use Rattle.wasm_spec.specs.declared.entities.TypeRef.{TypeRef}
use Rattle.wasm_spec.specs.declared.entities.TypeRef.TheVariants as imported
use Rattle.wasm_spec.specs.declared.entities.ExternalKind.{ExternalKind}
use Rattle.wasm_spec.specs.declared.entities.ExternalKind.TheVariants as kind
use Rattle.wasm_spec.specs.Module.{Import, Export, TableDef, GlobalDef, function_import, table_import, memory_import, global_import, tag_import}
use Rattle.wasm_spec.specs.Module as plain
use Rattle.rule_spec.specs.declared.rules.Rule.TheVariants.{L7}
use Rattle.rule_spec.specs.Indices.{space_size, IsInSpace}
use Rattle.rule_spec.specs.Lists.{lists_of_module}
use Rattle.rule_spec.specs.Rules.{Keeps}
use Rattle.form_types.proofs.AllOf.{All-from_map}
use Rattle.wasm_index.specs.Index.{number_of}
use Rattle.wasm_types.specs.declared.entity.EntityIndex.{EntityIndex}
use Rattle.wasm_types.specs.declared.entity.EntityIndex.TheVariants as entity
use Rattle.wasm_types.specs.declared.entity.EntityType.TheVariants as type
use Rattle.wasm_types.specs.EntityViews.{table_of, global_of}
use Rattle.wasm_types.specs.Memories.{memory_of}
use Rattle.wasm_module.specs.declared.function.FunctionType.{FunctionType}
use Rattle.wasm_module.specs.declared.initializer.Initializer.{Initializer}
use Rattle.wasm_module.specs.declared.initializer.Initializer.TheVariants as initializer
use Rattle.wasm_module.specs.declared.module.Module.{Module}
use Rattle.wasm_module.specs.Entities.{entity_type}
use Rattle.wasm_module.specs.Imports.{IsResolved}
use Rattle.wasm_module.specs.Record.{record_of}
use Rattle.module_sections.specs.Entities.{NamedEntity, count_of, brought, imports_after, imported_entities, exported_entities, entity_at, resolved_import, resolved_export}
use Rattle.module_sections.specs.Pooled.{HasText, HasTexts}
use Rattle.import_match.specs.Linking.{IsExportResolved}
use Rattle.plan_link.proofs.TypesBelow.{HasTypesOf}

-- ---- each import brings an entity of which there are as many imported ones

-- its number is below how many of its kind are imported
abbrev IsAmong : List Import → EntityIndex → Type 0
IsAmong is (entity.Function i) = number_of i < count_of function_import is
IsAmong is (entity.Table i) = number_of i < count_of table_import is
IsAmong is (entity.Memory i) = number_of i < count_of memory_import is
IsAmong is (entity.Global i) = number_of i < count_of global_import is
IsAmong is (entity.Tag i) = number_of i < count_of tag_import is

module _ (before : List Import) (i : Import) (after : List Import) where
  -- one of a kind is counted after those before it
  counted : {A : Type 0} (kind : TypeRef → Option A) (a : A) → kind i.type ≡ Some a → count_of kind before < count_of kind (before ++ i ∷ after)
  counted kind a is =
      let rest = filter_map (λ (j : Import). kind j.type) after in
      let joined = filter_map-append (λ (j : Import). kind j.type) before (i ∷ after) in
      let long = length-append (filter_map (λ (j : Import). kind j.type) before) (cons_option (kind i.type) rest) in
      omega (arith, ap length joined, long, ap (λ o. length (cons_option o rest)) is)

  among : IsAmong (before ++ i ∷ after) (brought before i.type)
  among = by i.type refl where
    by : (t : TypeRef) → i.type ≡ t → IsAmong (before ++ i ∷ after) (brought before t)
    by (imported.Func t) is = counted function_import t (ap function_import is)
    by (imported.Table t) is = counted table_import t (ap table_import is)
    by (imported.Memory t) is = counted memory_import t (ap memory_import is)
    by (imported.Global t) is = counted global_import t (ap global_import is)
    by (imported.Tag t) is = counted tag_import t (ap tag_import is)

all-among : (before is : List Import) → All (λ (x : NamedEntity). IsAmong (before ++ is) x.2) (imports_after before is)
all-among before [] = All-nil (λ (x : NamedEntity). IsAmong (before ++ []) x.2)
all-among before (i ∷ is) =
    All-cons (λ (x : NamedEntity). IsAmong (before ++ i ∷ is) x.2) (i.space, i.name, brought before i.type) (imports_after (before ++ i ∷ []) is)
    (among before i is) (rw (← append_assoc before (i ∷ []) is) (all-among (before ++ i ∷ []) is))

-- ---- the record has as many entities as the module

is-there : {A B : Type 0} (f : A → B) (xs : List A) (i : ℕ) → i < length xs → IsSome (option_map f (slice_get xs i))
is-there f [] i lt = absurd (omega arith)
is-there f (x ∷ xs) i lt = ap (λ o. is_some (option_map f o)) (slice_get-get_or (x ∷ xs) i x lt)

text-there : (texts : List (List ℕ)) (atom : Atom) → HasText texts atom → IsSome (slice_get texts (atom_number atom))
text-there texts atom lt = ap is_some (slice_get-get_or texts (atom_number atom) [] lt)

-- the entities of a record are those of a module; its imports and exports too, whose names are in
-- its pool
abbrev pub HasEntitiesOf : plain.Module → Module → Type 0
HasEntitiesOf m r = record {
  types : HasTypesOf m r;
  memories : r.memories ≡ map memory_of (plain.memories m);
  imports : map (resolved_import r.strings) r.initializers.items ≡ imported_entities m;
  exports : map (resolved_export r.strings) r.exports.entries ≡ exported_entities (lists_of_module m).exports;
  import_names : All (HasTexts r.strings) r.initializers.items;
  export_names : All (λ (e : Atom × EntityIndex). HasText r.strings e.0) r.exports.entries;
}

module _ (m : plain.Module) (keeps : Keeps m) (r : Module) (has : HasEntitiesOf m r) where
  abbrev IsThere : EntityIndex → Type 0
  IsThere e = IsSome (entity_type (record_of r) e)

  there-at : (k : ExternalKind) (n : ℕ) → n < space_size (lists_of_module m) k → IsThere (entity_at k n)
  there-at kind.Func n lt =
      let long = ap length has.types.functions ∙ length-map (enumerate_from 0 (plain.functions m)) _ ∙ length-enumerate_from 0 (plain.functions m) in
      is-there (λ (f : FunctionType). type.Function f.signature) r.functions n (omega (arith, lt, long))
  there-at kind.Table n lt =
      is-there type.Table r.tables n (omega (arith, lt, length-map r.tables table_of, ap length has.types.tables ∙ length-map (plain.tables m) _))
  there-at kind.Memory n lt =
      is-there type.Memory r.memories n (omega (arith, lt, ap length has.memories ∙ length-map (plain.memories m) memory_of))
  there-at kind.Global n lt =
      is-there type.Global r.globals n (omega (arith, lt, length-map r.globals global_of, ap length has.types.globals ∙ length-map (plain.globals m) _))
  there-at kind.Tag n lt = is-there type.Tag r.tags n (omega (arith, lt, ap length has.types.tags ∙ length-map (plain.tags m) _))

  -- ---- imports

  import-there : (e : EntityIndex) → IsAmong (plain.imports m) e → IsThere e
  import-there (entity.Function i) lt =
      there-at kind.Func (number_of i) (omega (arith, lt, length-append (plain.imported_of function_import m) (flat_map plain.function_types_of_section m)))
  import-there (entity.Table i) lt =
      there-at kind.Table (number_of i)
      (omega (arith, lt, length-append (plain.imported_of table_import m) (map (λ (t : TableDef). t.type) (flat_map plain.tables_of_section m))))
  import-there (entity.Memory i) lt =
      there-at kind.Memory (number_of i) (omega (arith, lt, length-append (plain.imported_memories m) (plain.defined_memories m)))
  import-there (entity.Global i) lt =
      there-at kind.Global (number_of i)
      (omega (arith, lt, length-append (plain.imported_of global_import m) (map (λ (g : GlobalDef). g.type) (flat_map plain.globals_of_section m))))
  import-there (entity.Tag i) lt =
      there-at kind.Tag (number_of i) (omega (arith, lt, length-append (plain.imported_of tag_import m) (flat_map plain.tags_of_section m)))

  imports-there : All (λ (x : Initializer). IsThere (resolved_import r.strings x).2) r.initializers.items
  imports-there =
      let Q : NamedEntity → Type 0 = λ x. IsThere x.2 in
      All-from_map Q (resolved_import r.strings) r.initializers.items
      (All-same Q (map (resolved_import r.strings) r.initializers.items) (imported_entities m) has.imports
      (All-weaker (λ (x : NamedEntity). IsAmong (plain.imports m) x.2) Q (λ x. import-there x.2) (imported_entities m) (all-among [] (plain.imports m))))

  resolved : (x : Initializer) → HasTexts r.strings x → IsThere (resolved_import r.strings x).2 → IsResolved (record_of r) x
  resolved (initializer.Import name field index) texts there = (text-there r.strings name texts.0, text-there r.strings field texts.1, there)

  pub imports-resolved : All (IsResolved (record_of r)) r.initializers.items
  imports-resolved k d lt = resolved (get_or r.initializers.items k d) (has.import_names k d lt) (imports-there k d lt)

  -- ---- exports

  exports-there : All (λ (x : Atom × EntityIndex). IsThere x.1) r.exports.entries
  exports-there =
      let Q : List ℕ × EntityIndex → Type 0 = λ x. IsThere x.1 in
      let es = (lists_of_module m).exports in
      All-from_map Q (resolved_export r.strings) r.exports.entries
      (All-same Q (map (resolved_export r.strings) r.exports.entries) (exported_entities es) has.exports
      (All-map Q (λ (e : Export). (e.name, entity_at e.kind e.index)) es
      (All-weaker (IsInSpace (lists_of_module m)) (λ (e : Export). IsThere (entity_at e.kind e.index)) (λ e. there-at e.kind e.index) es (keeps L7).in_space)))

  pub exports-resolved : All (IsExportResolved (record_of r)) r.exports.entries
  exports-resolved k d lt = (text-there r.strings (get_or r.exports.entries k d).0 (has.export_names k d lt), exports-there k d lt)
