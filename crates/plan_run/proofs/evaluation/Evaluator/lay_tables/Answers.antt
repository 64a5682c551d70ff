use Rattle.std.proofs.Common.{◌≡◌, length, map, sym, arith}
use Rattle.std.proofs.lemmas.List.{length-map, length-append, length-drop}
use Rattle.replay_spec.specs.Tables.{planned_elements_phase}
use Rattle.init_plan.specs.Tables.{plan_of_tables}
use Rattle.plan_run.specs.Evaluation.{globals_of, fields_of}
use Rattle.plan_run.specs.Tables.{cells_in}
use Rattle.plan_run.specs.Values.{terms_of, imported_value}
use Rattle.plan_run.proofs.FirstCells.{tables-hold}
use Rattle.plan_run.proofs.Given.{tables-planned, elements-below}
use Rattle.plan_run.proofs.OneMore.{tables-on}
use Rattle.plan_run.proofs.evaluation.Evaluator.lay_tables.Goals.{In_ok-tables}
use Rattle.plan_run.proofs.evaluation.Evaluator.lay_tables.Goals as goal

-- there are as many tables as the module has
many : (c : In_ok-tables) → length c.in_ok-tables.tables.items ≡ length c.args.self.now.translation.now.«module».tables
many c = grind (arith, length-map, length-append, tables-planned, length-drop)

pub write_elements-trap-requires : goal.write_elements-trap-requires
write_elements-trap-requires c =
    let old = c.args.self.now in
    let grows = c.in_ok-tables.ensures.grows in
    elements-below (globals_of old) (fields_of old) (terms_of c.pieces_kept.new.self.nodes.items) (length c.in_ok-tables.tables.items)
    (plan_of_tables old.translation.now).segments c.deref.result.now (rw (many (goal.at.write_elements-trap-requires c).In_ok-tables) c.requires.finished.elements)
    (rw (grows.values, grows.translation, grows.types, ← c.deref.ensures.value) at c.in_ok-pieces.ensures.means.are)

pub returns-clause-laid : goal.returns-clause-laid
returns-clause-laid c =
    let old = c.args.self.now in
    let plan = plan_of_tables old.translation.now in
    let end = c.pieces_kept.new.self.nodes.items in
    let imported = map (λ table. map imported_value table.items) c.args.imported.items in
    let grows = c.in_ok-tables.ensures.grows in
    let are = rw (grows.values, grows.translation, grows.types, ← c.deref.ensures.value) at c.in_ok-pieces.ensures.means.are in
    let held = tables-on c.in_ok-pieces.ensures.grows.extends c.in_ok-tables.ensures.means in
    rw (← many (goal.at.returns-clause-laid c).In_ok-tables)
    (c.write_elements-trap.ensures.writes (terms_of end) (planned_elements_phase (globals_of old) (fields_of old) imported plan) (sym are)
    (tables-hold (globals_of old) (fields_of old) imported (cells_in (terms_of end) c.in_ok-tables.tables.items) plan held.are c.requires.finished.images))

pub returns-clause-below : goal.returns-clause-below
returns-clause-below c =
    let held = tables-on c.in_ok-pieces.ensures.grows.extends c.in_ok-tables.ensures.means in
    c.write_elements-trap.ensures.below (length c.pieces_kept.new.self.nodes.items) held.below (rw c.deref.ensures.value c.in_ok-pieces.ensures.means.below)
