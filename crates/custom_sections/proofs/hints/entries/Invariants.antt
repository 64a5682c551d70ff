use Rattle.std.proofs.Common.{◌≡◌, ◌-◌, map}
use Rattle.std.specs.Result.{result_ok}
use Rattle.form_reader.specs.ReadingNumbers.{vector_at}
use Rattle.custom_sections.specs.Views.{hint_entry_of}
use Rattle.custom_sections.specs.HintReading.{hint_entry_at}
use Rattle.custom_sections.proofs.Elements.{so_far}
use Rattle.custom_sections.proofs.hints.entries.Given as goal

abbrev pub invariant-entries : goal.invariant-entries
invariant-entries l = so_far hint_entry_at (map hint_entry_of l.all.items) (l.count - l.counter) l.rest ≡ result_ok (vector_at hint_entry_at l.fn.bytes)
