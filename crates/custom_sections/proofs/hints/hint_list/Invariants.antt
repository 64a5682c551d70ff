use Rattle.std.proofs.Common.{◌≡◌, ◌-◌}
use Rattle.std.specs.Result.{result_ok}
use Rattle.form_reader.specs.ReadingNumbers.{vector_at}
use Rattle.custom_sections.specs.HintReading.{hint_at}
use Rattle.custom_sections.proofs.Elements.{so_far}
use Rattle.custom_sections.proofs.hints.hint_list.Given as goal

abbrev pub invariant-hints : goal.invariant-hints
invariant-hints l = so_far hint_at l.all.items (l.count - l.counter) l.rest ≡ result_ok (vector_at hint_at l.fn.bytes)
