-- How index spaces grow while they are gathered.
use Rattle.std.specs.Prelude.{◌≡◌, List, ◌++◌, map}
use Rattle.std.specs.List.{flat_map, filter_map}
use Rattle.wasm_spec.specs.Module.{Import, Module, function_import, table_import, memory_import, global_import, tag_import, function_types_of_section, tables_of_section, memories_of_section, globals_of_section, tags_of_section}
use Rattle.form_rules.specs.declared.lists.Spaces.{Spaces}

-- the imports are added, each to the space of its kind
pub record AddsImports (old new : Spaces) (is : List Import) : Type 0 where
  pub functions : new.functions.items ≡ old.functions.items ++ filter_map (λ i. function_import i.type) is
  pub table_types : new.table_types.items ≡ old.table_types.items ++ filter_map (λ i. table_import i.type) is
  pub memories : new.memories.items ≡ old.memories.items ++ filter_map (λ i. memory_import i.type) is
  pub global_types : new.global_types.items ≡ old.global_types.items ++ filter_map (λ i. global_import i.type) is
  pub tags : new.tags.items ≡ old.tags.items ++ filter_map (λ i. tag_import i.type) is

-- what the sections define is added
pub record AddsDefined (old new : Spaces) (m : Module) : Type 0 where
  pub functions : new.functions.items ≡ old.functions.items ++ flat_map function_types_of_section m
  pub table_types : new.table_types.items ≡ old.table_types.items ++ map (λ t. t.type) (flat_map tables_of_section m)
  pub memories : new.memories.items ≡ old.memories.items ++ flat_map memories_of_section m
  pub global_types : new.global_types.items ≡ old.global_types.items ++ map (λ g. g.type) (flat_map globals_of_section m)
  pub tags : new.tags.items ≡ old.tags.items ++ flat_map tags_of_section m
