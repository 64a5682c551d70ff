use Rattle.std.proofs.Common.{◌≡◌, ◌++◌}
use Rattle.std.specs.Prelude.{All}
use Rattle.std.specs.List.{flat_map}
use Rattle.plan_lines.specs.NameLines.{IsInPool, export_line}
use Rattle.plan_lines.proofs.name_lines.append_exports.Given as goal

abbrev pub invariant-loop-name : goal.invariant-loop-name
invariant-loop-name l = record {
  lines : l.text ++ flat_map (λ export. export_line l.pool export.0 export.1) l.name-iterator
      ≡ l.initial.text ++ flat_map (λ export. export_line l.pool export.0 export.1) l.exports.entries;
  in_pool : All (λ export. IsInPool l.pool export.0) l.name-iterator;
}
