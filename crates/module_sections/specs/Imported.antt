-- What imports become, one after another.
use Rattle.std.specs.Prelude.{◌≡◌, ◌<◌, ℕ, ◌+◌, List, [], map, All, Option, None, Some}
use Rattle.std.specs.List.{flat_map}
use Rattle.wasm_spec.specs.declared.entities.TypeRef.{TypeRef}
use Rattle.wasm_spec.specs.declared.entities.TypeRef.TheVariants as imported
use Rattle.wasm_spec.specs.Module.{Import, function_import, table_import, memory_import, global_import, tag_import}
use Rattle.entity_map.specs.Entity.{reserved_number}
use Rattle.wasm_index.specs.Index.{index_of}
use Rattle.wasm_types.specs.declared.entity.EntityIndex.{EntityIndex}
use Rattle.wasm_types.specs.declared.entity.EntityIndex.TheVariants as entity
use Rattle.wasm_module.specs.declared.initializer.Initializer.{Initializer}
use Rattle.module_sections.specs.declared.imports.ImportCounts.{ImportCounts}
use Rattle.module_sections.specs.Entities.{count_of, imports_after, resolved_import}
use Rattle.form_rules.specs.Names.{import_names}
use Rattle.module_sections.specs.Pooled.{with_texts, HasTexts}

-- each count is that of the imports of its kind
abbrev pub AreCounted : List Import → ImportCounts → Type 0
AreCounted is counts = record {
  functions : counts.functions ≡ count_of function_import is;
  tables : counts.tables ≡ count_of table_import is;
  memories : counts.memories ≡ count_of memory_import is;
  globals : counts.globals ≡ count_of global_import is;
  tags : counts.tags ≡ count_of tag_import is;
}

-- each count is the number of an index
pub record HaveIndices (counts : ImportCounts) : Type 0 where
  pub functions : counts.functions < reserved_number
  pub tables : counts.tables < reserved_number
  pub memories : counts.memories < reserved_number
  pub globals : counts.globals < reserved_number
  pub tags : counts.tags < reserved_number

abbrev pub one_if : {A : Type 0} → Option A → ℕ
one_if None = 0
one_if (Some _) = 1

-- the counts with one import more
abbrev pub counted : ImportCounts → TypeRef → ImportCounts
counted c type = record {
  functions = c.functions + one_if (function_import type);
  tables = c.tables + one_if (table_import type);
  memories = c.memories + one_if (memory_import type);
  globals = c.globals + one_if (global_import type);
  tags = c.tags + one_if (tag_import type);
}

-- the entity that the next import brings
abbrev pub next_entity : ImportCounts → TypeRef → EntityIndex
next_entity c (imported.Func type) = entity.Function (index_of c.functions)
next_entity c (imported.Table type) = entity.Table (index_of c.tables)
next_entity c (imported.Memory type) = entity.Memory (index_of c.memories)
next_entity c (imported.Global type) = entity.Global (index_of c.globals)
next_entity c (imported.Tag type) = entity.Tag (index_of c.tags)

-- what these imports became: their names are in the pool, after the earlier ones
pub record BecomeInitializers (was : List (List ℕ)) (is : List Import) (texts : List (List ℕ)) (initializers : List Initializer) (counts : ImportCounts) : Type 0 where
  pub entities : map (resolved_import texts) initializers ≡ imports_after [] is
  pub pooled : All (HasTexts texts) initializers
  pub counted : AreCounted is counts
  pub pool : texts ≡ with_texts was (flat_map import_names is)
