use Rattle.std.proofs.Common.{◌≡◌, ◌++◌, length}
use Rattle.std.specs.Prelude.{All}
use Rattle.std.specs.List.{flat_map}
use Rattle.plan_lines.specs.NameLines.{IsInPool}
use Rattle.plan_tables.specs.Names.{name_of, export_rows}
use Rattle.plan_tables.proofs.names.exports_record.Given as goal

abbrev pub invariant-loop-name : goal.invariant-loop-name
invariant-loop-name l = record {
  rows : l.rows.items ++ export_rows l.pool (length l.names.items) l.name-iterator ≡ export_rows l.pool 0 l.exports.entries;
  names : l.names.items ++ flat_map (λ e. name_of l.pool e.0) l.name-iterator ≡ flat_map (λ e. name_of l.pool e.0) l.exports.entries;
  in_pool : All (λ e. IsInPool l.pool e.0) l.name-iterator;
}
