use Rattle.std.proofs.Common.{◌≡◌, ◌-◌, ◌≤◌, ℕ}
use Rattle.std.specs.Prelude.{vec_len, vec_capacity}
use Rattle.form_reader.specs.Reading.{elements_at}
use Rattle.form_reader.specs.TypeRows.{value_type}
use Rattle.form_reader.proofs.Loop.{with_front}
use Rattle.form_reader.proofs.value_lists.number_run.Given as goal

-- the list and what remains give what the bytes give, however many types there are
abbrev pub invariant-run : goal.invariant-run
invariant-run l = record {
  len : vec_len l.all ≡ l.counter;
  room : l.most ≤ vec_capacity l.all;
  so_far : (n : ℕ) → l.most ≤ n
      → with_front l.all.items (elements_at value_type.read (n - vec_len l.all) l.rest) ≡ elements_at value_type.read n l.fn.bytes;
}
