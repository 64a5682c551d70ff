use Rattle.std.proofs.Common.{◌≡◌, ◌++◌, length, take, drop}
use Rattle.std.specs.List.{flat_map}
use Rattle.plan_tables.specs.Names.{import_names, import_rows}
use Rattle.plan_tables.proofs.names.imports_record.Given as goal

abbrev pub invariant-loop-import : goal.invariant-loop-import
invariant-loop-import l = record {
  rows : l.rows.items ++ import_rows l.pool (length l.names.items) (drop l.import-index l.imports) ≡ import_rows l.pool 0 l.imports;
  names : l.names.items ≡ flat_map (import_names l.pool) (take l.import-index l.imports);
}
