-- The types of what was gathered are known, and the entities converted from them are those of the
-- module.
use Rattle.std.proofs.Common.{◌≡◌, ◌∙◌, ℕ, ◌≤◌, List, length, map, get_or, ap, arith}
use Rattle.std.specs.Prelude.{All}
use Rattle.std.proofs.lemmas.List.{length-map, length-append}
use Rattle.wasm_spec.specs.declared.entities.GlobalType.{GlobalType}
use Rattle.wasm_spec.specs.declared.entities.MemoryType.{MemoryType}
use Rattle.wasm_spec.specs.declared.entities.TableType.{TableType}
use Rattle.wasm_spec.specs.declared.types.UnpackedIndex.{UnpackedIndex}
use Rattle.wasm_spec.specs.Module.{TableDef, table_import}
use Rattle.wasm_spec.specs.Module as plain
use Rattle.rule_spec.specs.declared.rules.Rule.TheVariants.{L4, L10}
use Rattle.rule_spec.specs.Lists.{lists_of_module}
use Rattle.rule_spec.specs.Lists as rule
use Rattle.form_rules.specs.declared.lists.Lists.{Lists}
use Rattle.wasm_types.specs.declared.table.Table.{Table}
use Rattle.wasm_types.specs.EntityData.{global_edges, table_edges, map_global, map_table}
use Rattle.wasm_types.specs.EntityViews.{table_of}
use Rattle.wasm_types.specs.Memories.{memory_of, HasPageSize}
use Rattle.wasm_convert.specs.Conversion.{LookUp, global_type_of, table_type_of}
use Rattle.wasm_convert.specs.Known.{Known}
use Rattle.module_sections.specs.Entities.{count_of, tables_data, globals_data}
use Rattle.interned_types.specs.Environment.{LooksUpTypes}
use Rattle.module_sections.specs.Filling.{module_in, IsGathered}
use Rattle.module_sections.proofs.Agreeing.{known-table, known-global, all-tables, all-globals}

module _ (l : Lists) (gathered : IsGathered l) where
  abbrev m : plain.Module
  m = module_in l

  tables-are : l.spaces.table_types.items ≡ plain.tables m
  tables-are = ap (λ (r : rule.Lists). r.table_types) gathered.lists

  memories-are : l.spaces.memories.items ≡ plain.memories m
  memories-are = ap (λ (r : rule.Lists). r.memories) gathered.lists

  globals-are : l.spaces.global_types.items ≡ plain.globals m
  globals-are = ap (λ (r : rule.Lists). r.global_types) gathered.lists

  -- ---- memories

  pub pages : (ts : List MemoryType) → ts ≡ l.spaces.memories.items → All HasPageSize ts
  pages ts are =
      rw (are, memories-are) (λ k d lt. ((gathered.keeps L4).memories k d lt).page_size)

  pub memories-filled : (ts : List MemoryType) → ts ≡ l.spaces.memories.items → map memory_of ts ≡ map memory_of (plain.memories m)
  memories-filled ts are = ap (map memory_of) (are ∙ memories-are)

  -- ---- tables and globals

  abbrev count : ℕ
  count = length (lists_of_module m).types

  module _ (known : UnpackedIndex → Type 0) (look : LookUp) (looks : LooksUpTypes m known look) where
    abbrev KnowsTable : TableType → Type 0
    KnowsTable t = Known known (table_edges (λ i. i) (table_type_of t))

    abbrev KnowsGlobal : GlobalType → Type 0
    KnowsGlobal t = Known known (global_edges (λ i. i) (global_type_of t))

    pub tables-looked : (ts : List TableType) → ts ≡ l.spaces.table_types.items → All KnowsTable ts
    tables-looked ts are = rw (are, tables-are) (λ k d lt.
        known-table known count looks.knows (get_or (plain.tables m) k d) (all-tables count m (gathered.keeps L10) k d lt))

    pub globals-looked : (ts : List GlobalType) → ts ≡ l.spaces.global_types.items → All KnowsGlobal ts
    globals-looked ts are = rw (are, globals-are) (λ k d lt.
        known-global known count looks.knows (get_or (plain.globals m) k d) (all-globals count m (gathered.keeps L10) k d lt))

    pub tables-filled : (ts : List TableType) → ts ≡ l.spaces.table_types.items
        → map (λ t. map_table look (table_type_of t)) ts ≡ tables_data m
    tables-filled ts are = λ i. map (λ (t : TableType). map_table (looks.same i) (table_type_of t)) ((are ∙ tables-are) i)

    pub globals-filled : (ts : List GlobalType) → ts ≡ l.spaces.global_types.items
        → map (λ t. map_global look (global_type_of t)) ts ≡ globals_data m
    globals-filled ts are = λ i. map (λ (t : GlobalType). map_global (looks.same i) (global_type_of t)) ((are ∙ globals-are) i)

  -- ---- the imported tables come first

  pub imported-within : (ts : List TableType) → ts ≡ l.spaces.table_types.items → (tables : List Table) → (look : LookUp)
      → map table_of tables ≡ map (λ t. map_table look (table_type_of t)) ts → count_of table_import (plain.imports m) ≤ length tables
  imported-within ts are tables look filled =
      let long = length-map ts (λ (t : TableType). map_table look (table_type_of t)) in
      omega (
        arith,
        length-map tables table_of,
        ap length filled,
        long,
        ap length (are ∙ tables-are),
        length-append (plain.imported_of table_import m) (map (λ (d : TableDef). d.type) (lists_of_module m).tables),
      )
