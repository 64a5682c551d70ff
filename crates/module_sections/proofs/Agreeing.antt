-- What a module that keeps the rule of references names is known, where each declared type is.
use Rattle.std.proofs.Common.{◌<◌, ℕ, List, map}
use Rattle.std.specs.Prelude.{IfSome}
use Rattle.std.specs.List.{All, flat_map}
use Rattle.std.proofs.lemmas.List.Elements.{All-append, All-map, All-weaker}
use Rattle.wasm_spec.specs.declared.types.UnpackedIndex.{UnpackedIndex}
use Rattle.wasm_spec.specs.declared.types.UnpackedIndex.TheVariants.{Module}
use Rattle.wasm_spec.specs.declared.entities.GlobalType.{GlobalType}
use Rattle.wasm_spec.specs.declared.entities.TableType.{TableType}
use Rattle.wasm_spec.specs.declared.entities.TypeRef.{TypeRef}
use Rattle.wasm_spec.specs.declared.entities.TypeRef.TheVariants as imported
use Rattle.wasm_spec.specs.Module.{Import, TableDef, GlobalDef, table_import, global_import}
use Rattle.wasm_spec.specs.Module as plain
use Rattle.rule_spec.specs.Lists.{lists_of_module}
use Rattle.rule_spec.specs.References.{RefersIn, ValueRefersIn, ImportRefersIn, TableRefersIn, GlobalRefersIn, AllReferIn}
use Rattle.rule_spec.specs.TypeRules.{IsBelow, HeapIsBelow, ValueIsBelow}
use Rattle.wasm_types.specs.EntityData.{global_edges, table_edges}
use Rattle.wasm_convert.specs.Conversion.{global_type_of, table_type_of}
use Rattle.wasm_convert.specs.Known.{CanLookUp, Known}
use Rattle.module_sections.proofs.Filling.{All-gathered}

-- ---- what is known, where each declared type is

module _ (known : UnpackedIndex → Type 0) (count : ℕ) (each : (i : ℕ) → i < count → known (Module i)) where
  can-look : (i : UnpackedIndex) → IsBelow count i → CanLookUp known i
  can-look (Module i) below = each i below
  can-look _ below = absurd below

  pub known-edges : (edges : List UnpackedIndex) → All (IsBelow count) edges → Known known edges
  known-edges edges below = All-weaker (IsBelow count) (CanLookUp known) can-look edges below

  pub known-table : (t : TableType) → RefersIn count t.element_type → Known known (table_edges (λ i. i) (table_type_of t))
  unfolding HeapIsBelow
  known-table t refers = known-edges (table_edges (λ i. i) (table_type_of t)) refers

  pub known-global : (t : GlobalType) → ValueRefersIn count t.content_type → Known known (global_edges (λ i. i) (global_type_of t))
  unfolding ValueIsBelow
  known-global t refers = known-edges (global_edges (λ i. i) (global_type_of t)) refers

-- ---- the tables and globals of a module that keeps the rule of references

module _ (count : ℕ) where
  abbrev TableIn : TableType → Type 0
  TableIn t = RefersIn count t.element_type

  abbrev GlobalIn : GlobalType → Type 0
  GlobalIn t = ValueRefersIn count t.content_type

  imported-table : (t : TypeRef) → ImportRefersIn count t → IfSome (table_import t) TableIn
  imported-table (imported.Table t) refers = refers
  imported-table _ refers = tt

  imported-global : (t : TypeRef) → ImportRefersIn count t → IfSome (global_import t) GlobalIn
  imported-global (imported.Global t) refers = refers
  imported-global _ refers = tt

  module _ (m : plain.Module) (refer : AllReferIn count (lists_of_module m)) where
    pub all-tables : All (λ t. RefersIn count t.element_type) (plain.tables m)
    all-tables =
        let defined = flat_map plain.tables_of_section m in
        All-append TableIn (plain.imported_of table_import m) (map (λ t. t.type) defined)
        (All-gathered TableIn (λ i. table_import i.type) (plain.imports m) (λ k d lt. imported-table _ (refer.imports k d lt)))
        (All-map TableIn (λ (t : TableDef). t.type) defined
        (All-weaker (TableRefersIn count) (λ t. TableIn t.type) (λ t is. is.elements) defined refer.tables))

    pub all-globals : All (λ t. ValueRefersIn count t.content_type) (plain.globals m)
    all-globals =
        let defined = flat_map plain.globals_of_section m in
        All-append GlobalIn (plain.imported_of global_import m) (map (λ g. g.type) defined)
        (All-gathered GlobalIn (λ i. global_import i.type) (plain.imports m) (λ k d lt. imported-global _ (refer.imports k d lt)))
        (All-map GlobalIn (λ (g : GlobalDef). g.type) defined
        (All-weaker (GlobalRefersIn count) (λ g. GlobalIn g.type) (λ g is. is.content) defined refer.globals))
