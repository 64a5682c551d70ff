-- The entities of a translated module, and what it imports and exports (core specification, 2.5).
use Rattle.std.specs.Prelude.{ℕ, List, [], ◌∷◌, ◌++◌, length, map, slice_get, Option, unwrap_or}
use Rattle.std.specs.List.{filter_map, enumerate_from}
use Rattle.entity_map.specs.Pool.{atom_number}
use Rattle.entity_map.specs.declared.pool.Atom.{Atom}
use Rattle.wasm_spec.specs.declared.entities.TypeRef.{TypeRef}
use Rattle.wasm_spec.specs.declared.entities.TypeRef.TheVariants as imported
use Rattle.wasm_spec.specs.declared.entities.ExternalKind.{ExternalKind}
use Rattle.wasm_spec.specs.declared.entities.ExternalKind.TheVariants as kind
use Rattle.wasm_spec.specs.Module.{Import, Export, function_import, table_import, memory_import, global_import, tag_import}
use Rattle.wasm_spec.specs.Module as plain
use Rattle.wasm_index.specs.Index.{index_of}
use Rattle.wasm_types.specs.declared.entity.EntityIndex.{EntityIndex}
use Rattle.wasm_types.specs.declared.entity.EntityIndex.TheVariants as entity
use Rattle.wasm_types.specs.EntityData.{GlobalData, TableData, map_global, map_table}
use Rattle.wasm_types.specs.ValueViews.{Name}
use Rattle.wasm_convert.specs.Conversion.{global_type_of, table_type_of}
use Rattle.wasm_module.specs.declared.function.FunctionType.{FunctionType}
use Rattle.wasm_module.specs.declared.initializer.Initializer.{Initializer}
use Rattle.wasm_module.specs.declared.initializer.Initializer.TheVariants as initializer
use Rattle.interned_types.specs.Types.{declared_type, look_up_in}
use Rattle.module_sections.specs.Escapes.{number_among}

-- ---- imports: each brings the next entity of its kind

-- how many of some imports are of a kind
abbrev pub count_of : {A : Type 0} → (TypeRef → Option A) → List Import → ℕ
count_of kind is = length (filter_map (λ i. kind i.type) is)

-- the entity that an import brings after others
abbrev pub brought : List Import → TypeRef → EntityIndex
brought before (imported.Func type) = entity.Function (index_of (count_of function_import before))
brought before (imported.Table type) = entity.Table (index_of (count_of table_import before))
brought before (imported.Memory type) = entity.Memory (index_of (count_of memory_import before))
brought before (imported.Global type) = entity.Global (index_of (count_of global_import before))
brought before (imported.Tag type) = entity.Tag (index_of (count_of tag_import before))

-- the name of the module from which it comes, its own name, and its entity
abbrev pub NamedEntity : Type 0
NamedEntity = List ℕ × List ℕ × EntityIndex

abbrev pub imports_after : List Import → List Import → List NamedEntity
imports_after before [] = []
imports_after before (i ∷ is) = (i.space, i.name, brought before i.type) ∷ imports_after (before ++ i ∷ []) is

abbrev pub imported_entities : plain.Module → List NamedEntity
imported_entities m = imports_after [] (plain.imports m)

-- ---- exports

abbrev pub entity_at : ExternalKind → ℕ → EntityIndex
entity_at kind.Func index = entity.Function (index_of index)
entity_at kind.Table index = entity.Table (index_of index)
entity_at kind.Memory index = entity.Memory (index_of index)
entity_at kind.Global index = entity.Global (index_of index)
entity_at kind.Tag index = entity.Tag (index_of index)

abbrev pub exported_entities : List Export → List (List ℕ × EntityIndex)
exported_entities exports = map (λ (e : Export). (e.name, entity_at e.kind e.index)) exports

-- ---- names in a record: atoms of its pool, which is a list of texts

abbrev pub text_at : List (List ℕ) → Atom → List ℕ
text_at texts atom = unwrap_or (slice_get texts (atom_number atom)) []

abbrev pub resolved_import : List (List ℕ) → Initializer → NamedEntity
resolved_import texts (initializer.Import name field index) = (text_at texts name, text_at texts field, index)

abbrev pub resolved_export : List (List ℕ) → Atom × EntityIndex → List ℕ × EntityIndex
resolved_export texts e = (text_at texts e.0, e.1)

-- ---- index spaces

-- a function by its type, with its number among those that escape
abbrev pub function_types : plain.Module → List ℕ → List FunctionType
function_types m escaping = map (λ f. record { signature = declared_type m f.1; func_ref = index_of (number_among escaping f.0) })
    (enumerate_from 0 (plain.functions m))

abbrev pub tables_data : plain.Module → List (TableData Name)
tables_data m = map (λ t. map_table (look_up_in m) (table_type_of t)) (plain.tables m)

abbrev pub globals_data : plain.Module → List (GlobalData Name)
globals_data m = map (λ g. map_global (look_up_in m) (global_type_of g)) (plain.globals m)
