-- What the tables say of imports, exports and the module's name.
use Rattle.std.specs.Prelude.{◌≡◌, ℕ, ◌+◌, List, [], ◌∷◌, ◌++◌, length, slice_get, unwrap_or, Option, Some, None}
use Rattle.std.specs.List.{flat_map}
use Rattle.entity_map.specs.Pool.{atom_number}
use Rattle.entity_map.specs.declared.pool.Atom.{Atom}
use Rattle.wasm_types.specs.declared.entity.EntityIndex.{EntityIndex}
use Rattle.wasm_types.specs.declared.entity.EntityIndex.TheVariants as entity
use Rattle.wasm_module.specs.declared.initializer.Initializer.{Initializer}
use Rattle.wasm_module.specs.declared.initializer.Initializer.TheVariants.{Import}
use Rattle.wasm_module.specs.declared.module.Module.{Module}
use Rattle.plan_lines.specs.NameLines.{kind_number}
use Rattle.plan_tables.specs.declared.record.ExportsRecord.{ExportsRecord}
use Rattle.plan_tables.specs.declared.record.ImportsRecord.{ImportsRecord}
use Rattle.plan_tables.specs.declared.record.NamesRecord.{NamesRecord}
use Rattle.plan_tables.specs.declared.rows.ExportRow.{ExportRow}
use Rattle.plan_tables.specs.declared.rows.ImportRow.{ImportRow}
use Rattle.plan_tables.specs.declared.rows.Span.{Span}

abbrev pub entity_kind : EntityIndex → ℕ
entity_kind (entity.Function i) = 0
entity_kind (entity.Table i) = 1
entity_kind (entity.Memory i) = 2
entity_kind (entity.Global i) = 3
entity_kind (entity.Tag i) = 4

module _ (pool : List (List ℕ)) where
  -- the text of an atom of a pool
  abbrev pub name_of : Atom → List ℕ
  name_of name = unwrap_or (slice_get pool (atom_number name)) []

  -- the part that it is behind n bytes of other names
  abbrev pub name_part : ℕ → Atom → Span
  name_part n name = record { begin = n; len = length (name_of name) }

  -- the two names of an import, one after the other
  abbrev pub import_names : Initializer → List ℕ
  import_names (Import from name e) = name_of from ++ name_of name

  -- an import whose names are behind n bytes of other names
  abbrev pub import_row : ℕ → Initializer → ImportRow
  import_row n (Import from name e) = record {
    kind = entity_kind e;
    index = kind_number e;
    from = name_part n from;
    name = name_part (n + length (name_of from)) name;
  }

  abbrev pub import_rows : ℕ → List Initializer → List ImportRow
  import_rows n [] = []
  import_rows n (i ∷ is) = import_row n i ∷ import_rows (n + length (import_names i)) is

  -- the imports, their names end to end
  pub record TellsImports (imports : List Initializer) (r : ImportsRecord) : Type 0 where
    pub rows : r.rows.now ≡ import_rows 0 imports
    pub names : r.names.now ≡ flat_map import_names imports

  abbrev pub export_rows : ℕ → List (Atom × EntityIndex) → List ExportRow
  export_rows n [] = []
  export_rows n (e ∷ es) =
      record { kind = entity_kind e.1; index = kind_number e.1; name = name_part n e.0 } ∷ export_rows (n + length (name_of e.0)) es

  -- the exports, their names end to end
  pub record TellsExports (exports : List (Atom × EntityIndex)) (r : ExportsRecord) : Type 0 where
    pub rows : r.rows.now ≡ export_rows 0 exports
    pub names : r.names.now ≡ flat_map (λ e. name_of e.0) exports

  -- a name's part of its own text, where there is one
  abbrev pub own_parts : Option Atom → List Span
  own_parts None = []
  own_parts (Some name) = name_part 0 name ∷ []

  abbrev pub own_name : Option Atom → List ℕ
  own_name None = []
  own_name (Some name) = name_of name

pub record TellsModuleNames (m : Module) (r : NamesRecord) : Type 0 where
  pub imports : TellsImports m.strings m.initializers.items r.imports
  pub exports : TellsExports m.strings m.exports.entries r.exports
  pub own : r.own.now ≡ own_parts m.strings m.name
