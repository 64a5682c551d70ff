use Rattle.std.proofs.Common.{◌∙◌, ◌+◌, ap, arith}
use Rattle.std.specs.Prelude.{vec_len}
use Rattle.form_reader.specs.TypeRows.{value_type}
use Rattle.form_reader.proofs.Loop.{one_more}
use Rattle.form_reader.proofs.value_lists.number_run.Goals as goal

pub run-preserved : goal.run-preserved
run-preserved c = record {
  len = c.push_reserved.ensures.len ∙ ap (λ n. n + 1) c.run.invariant.len;
  room = rw c.push_reserved.ensures.capacity c.run.invariant.room;
  so_far = λ n enough. rw (c.push_reserved.ensures.items, c.push_reserved.ensures.len)
      (one_more value_type.read n (vec_len c.run.all) c.run.all.items c.in-Some.number c.run.rest.now c.in-Some.after.now _
      (omega (arith, c.run.invariant.len, enough)) c.in-Some.ensures (c.run.invariant.so_far n enough));
}
