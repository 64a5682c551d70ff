-- The entities of a module: functions, tables, memories, globals and tags (core specification, 2.5).
use Rattle.std.specs.Prelude.{ℕ, ◌<◌, Option, length, map, not, slice_get, take, drop, Contains}
use Rattle.std.specs.List.{filter}
use Rattle.std.specs.Option.{option_map}
use Rattle.wasm_index.specs.Index.{number_of}
use Rattle.wasm_types.specs.declared.entity.EntityIndex.{EntityIndex}
use Rattle.wasm_types.specs.declared.entity.EntityIndex.TheVariants as index
use Rattle.wasm_types.specs.declared.entity.EntityType.{EntityType}
use Rattle.wasm_types.specs.declared.entity.EntityType.TheVariants as type
use Rattle.wasm_module.specs.Record.{ModuleRecord}

-- the index of an entity in the index space of its kind
abbrev pub entity_number : EntityIndex → ℕ
entity_number (index.Function i) = number_of i
entity_number (index.Table i) = number_of i
entity_number (index.Memory i) = number_of i
entity_number (index.Global i) = number_of i
entity_number (index.Tag i) = number_of i

-- how many entities of its kind are imported
abbrev pub imported_count : ModuleRecord → EntityIndex → ℕ
imported_count m (index.Function i) = m.num_imported_funcs
imported_count m (index.Table i) = m.num_imported_tables
imported_count m (index.Memory i) = m.num_imported_memories
imported_count m (index.Global i) = m.num_imported_globals
imported_count m (index.Tag i) = m.num_imported_tags

-- the type of an entity, if the module has it
abbrev pub entity_type : ModuleRecord → EntityIndex → Option EntityType
entity_type m (index.Function i) = option_map (λ f. type.Function f.signature) (slice_get m.functions (number_of i))
entity_type m (index.Table i) = option_map type.Table (slice_get m.tables (number_of i))
entity_type m (index.Memory i) = option_map type.Memory (slice_get m.memories (number_of i))
entity_type m (index.Global i) = option_map type.Global (slice_get m.globals (number_of i))
entity_type m (index.Tag i) = option_map type.Tag (slice_get m.tags (number_of i))

-- the entity is one that the module imports
abbrev pub IsImported : ModuleRecord → EntityIndex → Type 0
IsImported m e = entity_number e < imported_count m e

-- some export is the entity
abbrev pub IsExported : ModuleRecord → EntityIndex → Type 0
IsExported m e = Contains (map (λ export. export.1) m.exports) e

-- how many of the first `count` defined memories are not shared
abbrev pub owned_memories : ModuleRecord → ℕ → ℕ
owned_memories m count = length (filter (λ memory. not memory.shared) (take count (drop m.num_imported_memories m.memories)))
