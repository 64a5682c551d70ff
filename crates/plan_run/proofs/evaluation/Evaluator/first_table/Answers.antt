use Rattle.std.proofs.Common.{◌+◌, length, ap, refl, arith}
use Rattle.std.proofs.lemmas.List.{length-drop}
use Rattle.std.proofs.lemmas.Option.{slice_get_read}
use Rattle.wasm_convert.specs.Constants.{expression_of}
use Rattle.replay_spec.specs.Elements.{cell_of}
use Rattle.plan_run.specs.Evaluation.{globals_of, fields_of}
use Rattle.plan_run.specs.Values.{terms_of}
use Rattle.plan_run.proofs.CellSteps.{planned-is, image-short}
use Rattle.plan_run.proofs.Lists.{some-at}
use Rattle.plan_run.proofs.OneMore.{equal-mean}
use Rattle.plan_run.proofs.Terms.{all-names-more}
use Rattle.plan_run.proofs.evaluation.Evaluator.first_table.Goals as goal

pub image_cells-requires : goal.image_cells-requires
image_cells-requires c =
    let t = c.args.self.now.translation.now in
    let own = length-drop t.«module».num_imported_tables t.«module».tables in
    let value = c.index-as_slice-number.result in
    let image = c.index-as_slice-number-in-Null.result in
    let found = some-at t.«module».tables (t.«module».num_imported_tables + c.args.number) (omega arith) in
    let minimum = c.minimum_of-minimum.ensures found.0 (rw c.as_slice-tables.ensures found.1) in
    let value_at = slice_get_read t.table_initialization.initial_values _ c.args.number value refl (omega arith) (rw c.as_slice.ensures at c.index-as_slice-number.is) in
    let image_at = slice_get_read t.«module».table_initialization _ c.args.number image refl (omega arith) (rw c.as_slice-in-Null.ensures at c.index-as_slice-number-in-Null.is) in
    let short = image-short t c.args.number found.0 value image found.1 value_at image_at c.requires.images in
    let same = ap length c.deref.ensures.value in
    omega arith

pub returns-in_ok-cells-in-Null-clause-means : goal.returns-in_ok-cells-in-Null-clause-means
returns-in_ok-cells-in-Null-clause-means c = λ planned at.
    let t = c.args.self.now.translation.now in
    let own = length-drop t.«module».num_imported_tables t.«module».tables in
    let value = c.index-as_slice-number.result in
    let image = c.index-as_slice-number-in-Null.result in
    let found = some-at t.«module».tables (t.«module».num_imported_tables + c.args.number) (omega arith) in
    let minimum = c.minimum_of-minimum.ensures found.0 (rw c.as_slice-tables.ensures found.1) in
    let value_at = slice_get_read t.table_initialization.initial_values _ c.args.number value refl (omega arith) (rw c.as_slice.ensures at c.index-as_slice-number.is) in
    let image_at = slice_get_read t.«module».table_initialization _ c.args.number image refl (omega arith) (rw c.as_slice-in-Null.ensures at c.index-as_slice-number-in-Null.is) in
    rw (planned-is t c.args.number found.0 value image found.1 value_at image_at planned at, c.in-Null.is) (record {
      below = all-names-more 0 _ c.in_ok-cells-in-Null.cells.items (omega arith) c.in_ok-cells-in-Null.ensures.plain;
      are = rw (c.deref.ensures.value, minimum) at (c.in_ok-cells-in-Null.ensures.means (terms_of c.args.self.now.nodes.items));
    })

pub returns-in_ok-cells-in-Expr-clause-means : goal.returns-in_ok-cells-in-Expr-clause-means
returns-in_ok-cells-in-Expr-clause-means c = λ planned at.
    let t = c.args.self.now.translation.now in
    let own = length-drop t.«module».num_imported_tables t.«module».tables in
    let value = c.index-as_slice-number.result in
    let found = some-at t.«module».tables (t.«module».num_imported_tables + c.args.number) (omega arith) in
    let image_found = some-at t.«module».table_initialization c.args.number (omega arith) in
    let minimum = c.minimum_of-minimum.ensures found.0 (rw c.as_slice-tables.ensures found.1) in
    let value_at = slice_get_read t.table_initialization.initial_values _ c.args.number value refl (omega arith) (rw c.as_slice.ensures at c.index-as_slice-number.is) in
    rw (planned-is t c.args.number found.0 value image_found.0 found.1 value_at image_found.1 planned at, c.in-Expr.is, c.in_ok-cells-in-Expr.ensures, ← minimum)
    (equal-mean c.evaluate.new.self.nodes.items c.in_ok-value-in-Expr.value (cell_of (globals_of c.args.self.now) (fields_of c.args.self.now) (expression_of c.in-Expr.initial)) c.minimum_of-minimum.result
    c.in_ok-value-in-Expr.ensures.means)
