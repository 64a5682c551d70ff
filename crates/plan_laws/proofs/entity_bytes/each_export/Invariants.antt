use Rattle.std.proofs.Common.{◌<◌, ◌^◌}
use Rattle.std.specs.List.{All}
use Rattle.entity_map.specs.declared.pool.Atom.{Atom}
use Rattle.wasm_types.specs.declared.entity.EntityIndex.{EntityIndex}
use Rattle.plan_lines.specs.NameLines.{kind_number}
use Rattle.plan_laws.proofs.entity_bytes.each_export.Given as goal

abbrev pub invariant-loop-exported : goal.invariant-loop-exported
invariant-loop-exported l = All (λ (p : Atom × EntityIndex). kind_number p.1 < 2 ^ 32) l.exported-iterator → All (λ (p : Atom × EntityIndex). kind_number p.1 < 2 ^ 32) l.exports.entries
