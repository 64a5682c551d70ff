use Rattle.form_reader.proofs.FrequentGlobals.{number_read, nullable_read, not_nullable_read}
use Rattle.form_reader.proofs.frequent_globals.frequent_value_type.Goals as goal
use Rattle.form_reader.proofs.frequent_globals.frequent_value_type.Goals.{then-first-eq-NULLABLE-via-then-first-eq-NULLABLE, then-first-eq-NULLABLE-via-else-first-eq-NULLABLE+then-first-eq-NOT_NULLABLE}

pub returns-in-Some : goal.returns-in-Some
returns-in-Some c = number_read c.in_ok-first.first c.args.bytes.now c.in_ok-first.rest.now c.in_ok-first.ensures c.in-Some.number c.in-Some.ensures

pub returns-then-first-eq-NULLABLE : goal.returns-then-first-eq-NULLABLE
returns-then-first-eq-NULLABLE c =
    let read = nullable_read c.in_ok-first.first c.args.bytes.now c.in_ok-first.rest.now c.in_ok-first.ensures c.in_ok-heap.heap c.in_ok-heap.after.now c.in_ok-heap.ensures in
    let other = not_nullable_read c.in_ok-first.first c.args.bytes.now c.in_ok-first.rest.now c.in_ok-first.ensures c.in_ok-heap.heap c.in_ok-heap.after.now c.in_ok-heap.ensures in
    elim c.then-first-eq-NULLABLE.branch [
      | then-first-eq-NULLABLE-via-then-first-eq-NULLABLE w ↦ read w.if-first-eq-NULLABLE.true
      | then-first-eq-NULLABLE-via-else-first-eq-NULLABLE+then-first-eq-NOT_NULLABLE w ↦ other w.if-first-eq-NOT_NULLABLE.true
    ]
