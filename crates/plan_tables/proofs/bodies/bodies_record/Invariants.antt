use Rattle.std.proofs.Common.{◌≡◌, ◌++◌, length, map, take, drop}
use Rattle.std.specs.List.{flat_map}
use Rattle.plan_tables.specs.Bodies.{locals_row, sized_bodies, body_told, body_rows}
use Rattle.plan_tables.proofs.bodies.bodies_record.Given as goal

abbrev pub invariant-loop-input : goal.invariant-loop-input
invariant-loop-input l = record {
  rows : map body_told l.rows.items ++ body_rows l.cursor.rest.now (length l.locals.items) (drop l.input-index l.bodies) ≡ body_rows (sized_bodies l.translation.wasm.now l.translation.debuginfo.wasm_file.code_section_offset) 0 l.bodies;
  locals : l.locals.items ≡ flat_map (λ b. map locals_row b.body.locals.items) (take l.input-index l.bodies);
}
