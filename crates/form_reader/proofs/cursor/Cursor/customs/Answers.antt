use Rattle.std.proofs.Common.{sym, arith}
use Rattle.std.proofs.lemmas.Result.{err_from_is_err_and}
use Rattle.form_reader.proofs.CustomRuns.{run_begins, run_fits, run_goes_on, run_fails, run_ends, custom_shortens}
use Rattle.form_reader.proofs.cursor.Cursor.customs.Goals as goal

pub customs-init : goal.customs-init
customs-init c = run_begins c.args.self.now.rest.now

pub overflow_add-count : goal.overflow_add-count
overflow_add-count c = omega (
  arith,
  run_fits c.customs.count c.args.self.now.rest.now c.customs.self.rest.now c.customs.invariant,
  custom_shortens c.customs.self.rest.now c.custom.new.self.rest.now _ (sym c.customs-test.ensures) c.in_ok-custom.ensures,
)

pub customs-smaller : goal.customs-smaller
customs-smaller c = custom_shortens c.customs.self.rest.now c.custom.new.self.rest.now _ (sym c.customs-test.ensures) c.in_ok-custom.ensures

pub customs-preserved : goal.customs-preserved
customs-preserved c =
    run_goes_on c.customs.count c.args.self.now.rest.now c.customs.self.rest.now c.customs.invariant c.custom.new.self.rest.now _
    (sym c.customs-test.ensures) c.in_ok-custom.ensures

pub returns-in_err-custom : goal.returns-in_err-custom
returns-in_err-custom c = λ place next.
    let p = err_from_is_err_and c.from_residual.result c.from_residual.ensures.1 in
    rw (p.1, p.2) (λ k some enough. run_fails c.customs.count c.args.self.now.rest.now c.customs.self.rest.now c.customs.invariant c.in_err-custom.field-0.0
    (sym c.customs-test.ensures) c.in_err-custom.ensures place next k enough)

pub returns : goal.returns
returns c = λ place next.
    run_ends c.customs.count c.args.self.now.rest.now c.customs.self.rest.now c.customs.invariant c.requires (sym c.customs-test.ensures) place next
