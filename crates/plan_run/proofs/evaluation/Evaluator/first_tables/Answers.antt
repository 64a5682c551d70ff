use Rattle.std.proofs.Common.{◌<◌, ◌++◌, ◌∷◌, [], ◌∙◌, append_assoc, length, map, take, ap, arith}
use Rattle.std.proofs.lemmas.List.{append-nil, length-drop, map_push, take_more, take_all}
use Rattle.std.proofs.lemmas.Option.{get_or_from_slice_get}
use Rattle.init_plan.specs.Tables.{plan_of_tables}
use Rattle.plan_run.specs.Evaluation.{globals_of, fields_of}
use Rattle.plan_run.specs.Tables.{first_cells}
use Rattle.plan_run.specs.Values.{imported_value}
use Rattle.plan_run.proofs.Given.{tables-planned}
use Rattle.plan_run.proofs.Lists.{some-at}
use Rattle.plan_run.proofs.OneMore.{tables-more, plain-tables}
use Rattle.plan_run.proofs.Terms.{grows-on, grows-same}
use Rattle.plan_run.proofs.evaluation.Evaluator.first_tables.Goals as goal

pub loop-number-init : goal.loop-number-init
loop-number-init c = grind (arith, grows-same, append-nil, plain-tables)

pub loop-number-preserved : goal.loop-number-preserved
loop-number-preserved c =
    let t = c.args.self.now.translation.now in
    let plan = plan_of_tables t in
    let first = first_cells (globals_of c.args.self.now) (fields_of c.args.self.now) in
    let number = c.loop-number.number in
    let imported = map (λ table. map imported_value table.items) c.args.imported.items in
    let grows = c.loop-number.invariant.grows in
    let own = length-drop t.«module».num_imported_tables t.«module».tables in
    let planned = tables-planned t c.requires.counted in
    let within : number < length plan.tables = omega arith in
    let found = some-at plan.tables number within in
    let one = rw (grows.values, grows.translation, grows.types) at (c.in_ok-first_table.ensures.means found.0 (rw grows.translation found.1)) in
    let more = map_push first (take number plan.tables) found.0 in
    let taken = take_more plan.tables number found.0 within ∙ ap (λ x. take number plan.tables ++ x ∷ []) (get_or_from_slice_get plan.tables number found.0 found.0 found.1) in
    record {
      grows = grows-on grows c.in_ok-first_table.ensures.grows;
      means = rw (c.in_ok-push.ensures.items, taken, more, ← append_assoc imported (map first (take number plan.tables)) (first found.0 ∷ []))
          (tables-more c.in_ok-first_table.ensures.grows.extends c.in_ok-first_table.field-0 c.loop-number.invariant.means one);
    }

pub returns-clause-means : goal.returns-clause-means
returns-clause-means c = grind (arith, take_all, length-drop, tables-planned)
