-- The lists of a module that the rules refer to (core specification, 2.5 and 3.1, contexts).
use Rattle.std.specs.Prelude.{ℕ, ◌+◌, List, [], ◌∷◌, ◌++◌, length, Option, slice_get}
use Rattle.std.specs.List.{flat_map}
use Rattle.wasm_spec.specs.declared.entities.MemoryType.{MemoryType}
use Rattle.wasm_spec.specs.declared.entities.TableType.{TableType}
use Rattle.wasm_spec.specs.declared.entities.GlobalType.{GlobalType}
use Rattle.wasm_spec.specs.declared.types.UnpackedIndex.{UnpackedIndex}
use Rattle.std.specs.Option.{option_map}
use Rattle.wasm_spec.specs.TypeData.{Group, SubType, Composite}
use Rattle.wasm_spec.specs.Module as plain
use Rattle.wasm_spec.specs.Module.{Import, TableDef, GlobalDef, Export, Element, Body, Segment, Module}

-- a declared type, its index, and the index after the last member of its group
pub record Declared : Type 0 where
  pub type : SubType UnpackedIndex UnpackedIndex
  pub index : ℕ
  pub group_end : ℕ

-- the members of a group that ends there, the first with this index
abbrev pub declared_from : ℕ → ℕ → List (SubType UnpackedIndex UnpackedIndex) → List Declared
declared_from end index [] = []
declared_from end index (t ∷ ts) = record { type = t; index = index; group_end = end } ∷ declared_from end (index + 1) ts

-- the members of groups, the first with this index
abbrev pub declared_groups : ℕ → List (Group UnpackedIndex UnpackedIndex) → List Declared
declared_groups index [] = []
declared_groups index (g ∷ gs) = declared_from (index + length g) index g ++ declared_groups (index + length g) gs

pub record Lists : Type 0 where
  -- the index spaces: imports of the kind in order, and then what is defined
  pub types : List Declared
  pub functions : List ℕ
  pub table_types : List TableType
  pub memories : List MemoryType
  pub global_types : List GlobalType
  pub tags : List ℕ
  -- how many of them are imported
  pub imported_functions : ℕ
  pub imported_globals : ℕ
  -- the entries of the sections
  pub imports : List Import
  pub tables : List TableDef
  pub globals : List GlobalDef
  pub exports : List Export
  pub starts : List ℕ
  pub elements : List Element
  pub data_counts : List ℕ
  pub bodies : List Body
  pub segments : List Segment

-- the kind of the declared type that has this index
abbrev pub kind_at : Lists → ℕ → Option (Composite UnpackedIndex UnpackedIndex)
kind_at l index = option_map (λ (d : Declared). d.type.composite.inner) (slice_get l.types index)

abbrev pub lists_of_module : Module → Lists
lists_of_module m = record {
  types = declared_groups 0 (plain.groups m);
  functions = plain.functions m;
  table_types = plain.tables m;
  memories = plain.memories m;
  global_types = plain.globals m;
  tags = plain.tags m;
  imported_functions = length (plain.imported_of plain.function_import m);
  imported_globals = length (plain.imported_of plain.global_import m);
  imports = plain.imports m;
  tables = flat_map plain.tables_of_section m;
  globals = flat_map plain.globals_of_section m;
  exports = flat_map plain.exports_of_section m;
  starts = flat_map plain.starts_of_section m;
  elements = flat_map plain.elements_of_section m;
  data_counts = flat_map plain.data_counts_of_section m;
  bodies = flat_map plain.bodies_of_section m;
  segments = plain.segments m;
}
