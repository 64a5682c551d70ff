use Rattle.std.proofs.Common.{◌≡◌, ◌∙◌, ◌-◌, refl, arith}
use Rattle.std.proofs.lemmas.Result.{err_from_is_err_and}
use Rattle.form_reader.specs.Reading.{elements_at}
use Rattle.form_reader.specs.ReadingNumbers.{vector_at}
use Rattle.form_reader.specs.TypeRows.{value_type}
use Rattle.form_reader.proofs.Loop.{with_front, one_more, one_fails_all, all_read}
use Rattle.form_reader.proofs.cursor.Cursor.value_types.Goals as goal

pub others-init : goal.others-init
others-init c =
    let k : c.in_ok-count.count - c.len.result - 0 ≡ c.in_ok-count.count - c.len.result = omega arith in
    rw k refl

pub others-preserved : goal.others-preserved
others-preserved c =
    rw c.in_ok-push.ensures.items
    (one_more value_type.read (c.in_ok-count.count - c.len.result) c.others.counter c.others.all.items c.in_ok-one.one c.others.self.rest.now
    c.value_type.new.self.rest.now _ c.others-test.true c.in_ok-one.ensures c.others.invariant)

pub returns-in_err-one : goal.returns-in_err-one
unfolding vector_at
returns-in_err-one c =
    let left = c.in_ok-count.count - c.len.result in
    let run : with_front c.in_ok-all.all.items (elements_at value_type.read (c.in_ok-count.count - c.len.result) c.in_ok-all.rest.now)
    ≡ elements_at value_type.read c.in_ok-count.count c.u32.new.self.rest.now =
    rw c.len.ensures (c.in_ok-all.ensures.run c.in_ok-count.count (omega arith)) in
    let p = err_from_is_err_and c.from_residual-in_err-one.result c.from_residual-in_err-one.ensures.1 in
    rw (p.1, p.2, c.in_ok-count.ensures)
    (one_fails_all value_type.read left c.others.counter c.others.all.items c.others.self.rest.now
    c.in_err-one.field-0.0 _ c.others-test.true c.in_err-one.ensures (c.others.invariant ∙ run))

pub returns : goal.returns
unfolding vector_at
returns c =
    let left = c.in_ok-count.count - c.len.result in
    let run : with_front c.in_ok-all.all.items (elements_at value_type.read (c.in_ok-count.count - c.len.result) c.in_ok-all.rest.now)
    ≡ elements_at value_type.read c.in_ok-count.count c.u32.new.self.rest.now =
    rw c.len.ensures (c.in_ok-all.ensures.run c.in_ok-count.count (omega arith)) in
    rw c.in_ok-count.ensures
    (all_read value_type.read left c.others.counter c.others.all.items c.others.self.rest.now _ c.others-test.false
    (c.others.invariant ∙ run))
